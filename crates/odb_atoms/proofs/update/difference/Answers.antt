use mathlib.Core.Path.{sym, ◌∙◌}
use Rattle.odb_atoms.specs.Represented.ColType.{type_of}
use Rattle.odb_atoms.proofs.Represented.Undone.{undone}
use Rattle.odb_atoms.proofs.update.difference.Goals as goal

pub returns-else-is_single-clause-undone : goal.returns-else-is_single-clause-undone
returns-else-is_single-clause-undone c =
    undone c.changed.result c.args.old.now c.args.new.now (type_of c.args.column.now) (sym c.is_single.ensures ∙ c.if-is_single.false) c.changed.ensures
