use Rattle.std.proofs.Common.{sym, ap, ◌∙◌}
use mathlib.Core.Bool.{true≢false}
use Rattle.odb_atoms.specs.Uuid.{uuid_cmp}
use Rattle.odb_atoms.proofs.FinMaps.{get-empty}
use Rattle.odb_tables.specs.Represented.Facet.{is_tag_now}
use Rattle.odb_tables.proofs.row_index.RowIndex.new.Goals as goal

pub returns : goal.returns
returns c u tag h = absurd (true≢false (sym h ∙ ap (is_tag_now c.args.facet tag) (get-empty uuid_cmp u)))
