use Rattle.std.proofs.Common.{◌≡◌, take}
use Rattle.odb_atoms.specs.Row.{Row}
use Rattle.odb_atoms.specs.Uuid.{Uuid}
use Rattle.odb_cond.specs.Represented.Prepared.{gathers, some_holds}
use Rattle.odb_cond.proofs.gathered.Gathered.of.Given as goal

abbrev pub invariant-loop-place : goal.invariant-loop-place
invariant-loop-place l = (u : Uuid) (r : Row) → gathers u r l.members l.gathered ≡ some_holds u r (take l.place l.members)
