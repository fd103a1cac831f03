use Rattle.std.proofs.Common.{◌≡◌, map}
use Rattle.std.specs.Map.{keys_of}
use Rattle.std.specs.Map.Iter.{deref_pair}
use Rattle.odb_atoms.specs.Represented.Atom.{uuid_of}
use Rattle.odb_tables.proofs.overlay.Overlay.list.Given as goal

abbrev pub invariant-loop-key : goal.invariant-loop-key
invariant-loop-key l = map uuid_of l.uuids.items ≡ keys_of (map deref_pair l.yielded)
