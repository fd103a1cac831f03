use Rattle.std.proofs.Common.{◌≡◌, ◌++◌, map}
use Rattle.std.specs.Map.Iter.{deref_pair}
use Rattle.odb_atoms.specs.Represented.Atom.{uuid_of}
use Rattle.odb_tables.proofs.Found.{found, is_untouched}
use Rattle.odb_tables.proofs.table.Table.find_untouched.Given as goal

abbrev pub invariant-loop-key : goal.invariant-loop-key
invariant-loop-key g l = map uuid_of l.found.items ≡ map uuid_of l.initial.found.items ++ found (is_untouched (g.T.Test.passes l.test) l.overlay) (map deref_pair l.yielded)
