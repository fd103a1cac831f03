use mathlib.Core.Path.{sym, ◌∙◌}
use Rattle.odb_atoms.specs.Represented.ColType.{base_of}
use Rattle.odb_atoms.proofs.Free.{all_free}
use Rattle.odb_atoms.proofs.column_type.all_meet.Goals as goal

pub returns-then-is_free : goal.returns-then-is_free
returns-then-is_free c = all_free (base_of c.args.base.now) c.args.elements.now (sym c.is_free.ensures ∙ c.if-is_free.true)
