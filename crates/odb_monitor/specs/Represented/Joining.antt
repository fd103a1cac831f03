-- How a text is put together.
use Rattle.std.specs.Prelude.{◌++◌, ◌∷◌, [], ℕ, if◌then◌else◌, List, fold, length, nat_lt}
use Rattle.odb_monitor.specs.View.{is_empty}

-- with a comma, where something stands past this place
abbrev pub with_comma : ℕ → List ℕ → List ℕ
with_comma start text = if nat_lt start (length text) then text ++ 44 ∷ [] else text

-- with a piece, unless it is empty
abbrev pub with_piece : ℕ → List ℕ → List ℕ → List ℕ
with_piece start text piece = if is_empty piece then text else with_comma start text ++ piece

abbrev pub with_pieces : List ℕ → List (List ℕ) → List ℕ
with_pieces text pieces = fold (with_piece (length text)) text pieces

-- with a table, from its head on to its closing bracket
abbrev pub with_table : List ℕ → List ℕ → List (List ℕ) → List ℕ
with_table text head pieces = with_pieces (with_comma 1 text ++ head) pieces ++ 125 ∷ []
