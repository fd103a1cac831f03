use Rattle.std.proofs.Common.{sym, subst}
use Rattle.odb_tables.specs.Represented.RowIndex.{CutsAll}
use Rattle.odb_tables.proofs.row_index.cut_went.Goals as goal

pub returns-in-Old : goal.returns-in-Old
returns-in-Old c = subst (λ s. CutsAll c.args.facet.now c.args.pairs.now c.cut_tags.new.pairs s c.args.change.now) (sym c.in-Old.is) c.cut_tags.ensures
