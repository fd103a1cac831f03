-- The references that the columns of a schema make, and the rows that mention a row by them.
use Rattle.std.specs.Prelude.{◌≡◌, ℕ, Bool, not, ◌&&◌, ◌==◌, List, [], ◌++◌, flat_map, option_map, option_to_list, unwrap_or}
use Rattle.std.specs.List.{enumerate_from, list_any}
use Rattle.odb_atoms.specs.ColType.{Base, ColType}
use Rattle.odb_schema.specs.Schema.{Schema}
use Rattle.odb_tables.specs.Database.{Db, table_at}
use Rattle.odb_tables.specs.Indexed.{refers_at}
use Rattle.odb_integrity.specs.Settlement.{RowId, is_there, is_weak, same_row, target}
use Rattle.odb_integrity.specs.declared.referrers.Reference.{Reference}

-- the reference that a base type makes, in the column at the place i of the table t
abbrev pub base_references : Schema → ℕ → ℕ → Base → List Reference
base_references s t i b = option_to_list (option_map (λ k. record { target = k; table = t; place = i; weak = is_weak b }) (target s b))

-- those that a column makes by its keys and its values
abbrev pub column_references : Schema → ℕ → ℕ → ColType → List Reference
column_references s t i c = base_references s t i c.key ++ unwrap_or (option_map (base_references s t i) c.value) []

-- those of all columns
abbrev pub references_of : Schema → List Reference
references_of s = flat_map (λ e. flat_map (λ f. column_references s e.0 f.0 f.1.type) (enumerate_from 0 e.1.columns)) (enumerate_from 0 s.tables)

-- the row x mentions y by the reference
abbrev pub mentions_by : Db → RowId → RowId → Reference → Bool
mentions_by db x y r = (r.target == y.0) && ((x.0 == r.table) && refers_at r.place y.1 (table_at db r.table) x.1)

abbrev pub mentions : List Reference → Db → RowId → RowId → Bool
mentions rs db x y = list_any (mentions_by db x y) rs

-- x mentions the row y, which isn't there
abbrev pub mentions_gone : List Reference → Db → RowId → RowId → Bool
mentions_gone rs db x y = not (is_there db y) && mentions rs db x y

-- the rows are those that mention one of the list which isn't there
abbrev pub MentionGone : List Reference → Db → List RowId → List RowId → Type 0
MentionGone rs db xs rows = (x : RowId) → list_any (same_row x) rows ≡ list_any (mentions_gone rs db x) xs
