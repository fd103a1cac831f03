use mathlib.Core.Path.{sym, ◌∙◌}
use Rattle.odb_atoms.specs.Represented.ColType.{base_of}
use Rattle.odb_atoms.proofs.Free.{all_pairs_free}
use Rattle.odb_atoms.proofs.column_type.all_pairs_meet.Goals as goal

pub returns-then-is_free-2 : goal.returns-then-is_free-2
returns-then-is_free-2 c =
    all_pairs_free (base_of c.args.key.now) (base_of c.args.value.now) c.args.pairs.now (sym c.is_free.ensures ∙ c.if-is_free.true) (sym c.is_free-then-is_free.ensures ∙ c.if-is_free-2.true)
