use Rattle.std.proofs.Common.{◌≡◌, ◌++◌, filter, map, take}
use Rattle.odb_atoms.specs.Represented.Atom.{uuid_of}
use Rattle.odb_tables.specs.Represented.Found.{is_there}
use Rattle.odb_tables.proofs.table.Table.find_among.Given as goal

abbrev pub invariant-loop-key : goal.invariant-loop-key
invariant-loop-key g l = map uuid_of l.found.items ≡ map uuid_of l.initial.found.items ++ filter (is_there (g.T.Test.passes l.test) l.overlay l.self) (take l.key-index l.keys)
