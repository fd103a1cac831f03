use Rattle.std.proofs.Common.{◌≡◌, take, true}
use Rattle.std.specs.BTreeSet.{contains}
use Rattle.odb_atoms.specs.Uuid.{Uuid, uuid_cmp}
use Rattle.odb_chain.specs.Represented.Log.{is_named}
use Rattle.odb_chain.proofs.log.keys_of.Given as goal

abbrev pub invariant-loop-entry : goal.invariant-loop-entry
invariant-loop-entry l = (u : Uuid) → is_named u (take l.entry-index l.recorded) ≡ true → contains uuid_cmp l.keys u ≡ true
