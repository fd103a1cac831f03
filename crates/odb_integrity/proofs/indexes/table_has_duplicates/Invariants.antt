use Rattle.std.proofs.Common.{◌≡◌, false, map, take}
use Rattle.std.specs.List.{list_any}
use Rattle.odb_atoms.specs.Value.{same_values}
use Rattle.odb_integrity.specs.Settlement.{has_twins, index_cells, rows_of}
use Rattle.odb_schema.specs.Represented.Names.{names_of}
use Rattle.odb_tables.specs.Database.{table_at}
use Rattle.odb_integrity.proofs.indexes.table_has_duplicates.Given as goal

abbrev pub invariant-loop-index : goal.invariant-loop-index
invariant-loop-index l = list_any (λ index. has_twins same_values (map (index_cells l.table.columns index) (rows_of (table_at l.draft.now l.fn.id)))) (map names_of (take l.index-index l.index-items)) ≡ false
