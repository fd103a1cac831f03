use Rattle.std.proofs.Common.{◌≡◌, map}
use Rattle.odb_atoms.specs.Represented.Atom.{uuid_of}
use Rattle.odb_script.specs.Script.{fresh_from}
use Rattle.odb_script.proofs.fresh.fresh_uuids.Given as goal

abbrev pub invariant-loop-later : goal.invariant-loop-later
invariant-loop-later l = map uuid_of l.fresh.items ≡ fresh_from l.counted l.later
