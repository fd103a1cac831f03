-- What is known of a database that was changed in some rows alone, and which of its rows are to be tested.
use Rattle.std.specs.Prelude.{◌≡◌, ℕ, Bool, true, false, not, ◌&&◌, List, [], ◌∷◌, option_map, unwrap_or, Some}
use Rattle.std.specs.List.{list_any}
use Rattle.odb_atoms.specs.Row.{Row}
use Rattle.odb_atoms.specs.Uuid.{Uuid}
use Rattle.odb_schema.specs.Schema.{Schema}
use Rattle.odb_tables.specs.Database.{Db}
use Rattle.odb_integrity.specs.Gained.{gained, gained_since}
use Rattle.odb_integrity.specs.Settlement.{RowId, has_support, is_there, refers, row_ids, row_of, same_row}

-- rows that aren't listed are as they were
abbrev pub SameBut : List RowId → Db → Db → Type 0
SameBut xs old now = (x : RowId) → list_any (same_row x) xs ≡ false → row_of now x ≡ row_of old x

-- the same of the rows of one table
abbrev pub SameAt : ℕ → List RowId → Db → Db → Type 0
SameAt k xs old now = (u : Uuid) → list_any (same_row (k, u)) xs ≡ false → row_of now (k, u) ≡ row_of old (k, u)

-- p holds of listed rows alone
abbrev pub Covers : (RowId → Row → Bool) → Db → List RowId → Type 0
Covers p db xs = (x : RowId) (r : Row) → row_of db x ≡ Some r → list_any (same_row x) xs ≡ false → p x r ≡ false

-- ---- support

-- the rows that hung on one, and do so no more: those to which it had strong references that it lost; itself, where it wasn't there
abbrev pub hanging : Schema → Db → Db → RowId → List RowId
hanging s old now x = unwrap_or (option_map (gained_since s x (row_of now x)) (row_of old x)) (x ∷ [])

-- another row of the list gained a strong reference to x
abbrev pub is_newly_referred : Schema → Db → Db → List RowId → RowId → Bool
is_newly_referred s old now xs x = list_any (λ y. not (same_row x y) && list_any (same_row x) (gained s old now y)) xs

-- the row y, another one than x, has a strong reference to x
abbrev pub is_referrer : Schema → Db → RowId → RowId → Bool
is_referrer s db x y = not (same_row x y) && refers s db y x

-- a row that is there has no support by another one
abbrev pub is_lost : Schema → Db → RowId → Bool
is_lost s db x = is_there db x && not (has_support s db (row_ids db) x)

-- each row that is there has it, but for listed ones
abbrev pub SupportedBut : Schema → Db → List RowId → Type 0
SupportedBut s db xs = (x : RowId) → is_there db x ≡ true → list_any (same_row x) xs ≡ false → has_support s db (row_ids db) x ≡ true

-- ---- strong references to rows that aren't there

-- no row but listed ones gained one
abbrev pub GainMissing : Schema → List RowId → Db → Db → Type 0
GainMissing s xs old now = (x y : RowId) → list_any (same_row x) xs ≡ false → refers s now x y ≡ true → is_there now y ≡ false → refers s old x y ≡ true
