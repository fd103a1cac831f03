-- Names that stand once.
use Rattle.std.specs.Prelude.{◌≡◌, ℕ, false, List, [], ◌∷◌, bytes_eq}
use Rattle.odb_request.specs.Request.{Shape, column_names, table_names}

-- no name of the list is n
abbrev pub IsApart : List ℕ → List (List ℕ) → Type 0
IsApart n [] = Unit {0}
IsApart n (m ∷ ms) = (bytes_eq n m ≡ false) × IsApart n ms

abbrev pub AreDistinct : List (List ℕ) → Type 0
AreDistinct [] = Unit {0}
AreDistinct (n ∷ ns) = IsApart n ns × AreDistinct ns

abbrev pub ColumnsDistinct : List Shape → Type 0
ColumnsDistinct [] = Unit {0}
ColumnsDistinct (s ∷ ss) = AreDistinct (column_names s.columns) × ColumnsDistinct ss

-- tables are named once, and in each its columns
abbrev pub AreNamed : List Shape → Type 0
AreNamed ss = AreDistinct (table_names ss) × ColumnsDistinct ss
