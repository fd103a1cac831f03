-- A table of a job as its rows are listed, so that several may print pieces of them, and the text that is put together of the pieces. [P 9.3]
use Rattle.std.specs.Prelude.{◌≡◌, ◌++◌, ◌∷◌, [], ℕ, if◌then◌else◌, List, drop, flat_map, take}
use Rattle.json.specs.Print.{print}
use Rattle.json.specs.Token.{Token, begin_object, end_object, key}
use Rattle.odb_monitor.specs.View.{is_empty}

-- the table's name, and the tokens of each row: none of a row of which nothing is shown
pub record Listing : Type 0 where
  pub name : List ℕ
  pub rows : List (List Token)

abbrev pub all_tokens : List (List Token) → List Token
all_tokens rows = flat_map (λ ts. ts) rows

-- the table with its rows, as a member of the object of updates; nothing where no row is shown
abbrev pub listed_tokens : Listing → List Token
listed_tokens l = if is_empty (all_tokens l.rows) then [] else key l.name ∷ begin_object ∷ (all_tokens l.rows ++ end_object ∷ [])

-- the text of rows, with nothing around them
abbrev pub rows_text : List (List Token) → List ℕ
rows_text rows = print (all_tokens rows)

-- the texts are those of all of the rows, of so many first, then of so many that follow, and so on
abbrev pub AreOfRows : List (List Token) → List (List ℕ) → Type 0
AreOfRows rows [] = rows ≡ []
AreOfRows rows (text ∷ texts) = (count : ℕ) × (text ≡ rows_text (take count rows)) × AreOfRows (drop count rows) texts
