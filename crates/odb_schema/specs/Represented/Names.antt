-- Names in strictly ascending order, and lists of names.
use Rattle.std.specs.Prelude.{ℕ, T, List, map, string_bytes, String, Vec}
use Rattle.std.specs.FinMap.Entries.{is_sorted}
use Rattle.std.specs.declared.alloc.Global.{Global}
use Rattle.odb_atoms.specs.Text.{text_cmp}
use Rattle.odb_schema.specs.Schema.{Column, TableSchema}

-- beside its name, as an entry of a map
abbrev pub named : {A : Type 0} → (A → List ℕ) → A → List ℕ × A
named name x = (name x, x)

-- the names strictly ascend by their bytes
abbrev pub Ascends : {A : Type 0} → (A → List ℕ) → List A → Type 0
Ascends name xs = T (is_sorted text_cmp (map (named name) xs))

abbrev pub ColumnsAscend : List Column → Type 0
ColumnsAscend = Ascends (λ c. c.name)

abbrev pub TablesAscend : List TableSchema → Type 0
TablesAscend = Ascends (λ t. t.name)

-- the names of an index
abbrev pub names_of : Vec (String Global) Global → List (List ℕ)
names_of v = map string_bytes v.items
