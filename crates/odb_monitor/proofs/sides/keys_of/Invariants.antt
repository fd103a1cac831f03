use Rattle.std.proofs.Common.{◌≡◌, take}
use Rattle.std.specs.BTreeSet.{contains}
use Rattle.odb_atoms.specs.Uuid.{Uuid, uuid_cmp}
use Rattle.odb_monitor.specs.Represented.Candidates.{is_changed}
use Rattle.odb_monitor.proofs.sides.keys_of.Given as goal

abbrev pub invariant-loop-change : goal.invariant-loop-change
invariant-loop-change l = (u : Uuid) → contains uuid_cmp l.keys u ≡ is_changed (take l.change-index l.changes) u
