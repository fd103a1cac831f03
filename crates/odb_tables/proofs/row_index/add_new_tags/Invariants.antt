use Rattle.std.proofs.Common.{◌≡◌, ◌⊎◌, Some, drop}
use Rattle.std.specs.FinMap.Entries.{find}
use Rattle.odb_atoms.specs.FinMap as finite
use Rattle.odb_atoms.specs.Uuid.{Uuid, uuid_cmp}
use Rattle.odb_tables.specs.Represented.RowIndex.{AddsNewTagsOf}
use Rattle.odb_tables.specs.Represented.Pairs.{Grows}
use Rattle.odb_tables.proofs.RowIndexes.{Sides}
use Rattle.odb_tables.proofs.row_index.add_new_tags.Given as goal

abbrev pub invariant-loop-row : goal.invariant-loop-row
invariant-loop-row l = record {
  grows : Grows l.initial.pairs l.pairs;
  rest : (u : Uuid) (d : Sides) → finite.get l.change u ≡ Some d → AddsNewTagsOf l.facet l.initial.pairs l.pairs u d ⊎ (find uuid_cmp u (drop l.row-index l.row-items) ≡ Some d);
}
