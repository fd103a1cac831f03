use Rattle.std.proofs.Common.{◌≡◌, ◌++◌}
use Rattle.std.specs.Map.Iter.{deref_pair}
use Rattle.std.proofs.Common.{map}
use Rattle.odb_tables.proofs.Found.{found, is_there}
use Rattle.odb_tables.proofs.overlay.Overlay.add_standing.Given as goal

abbrev pub invariant-loop-key : goal.invariant-loop-key
invariant-loop-key l = l.keys.items ≡ l.initial.keys.items ++ found is_there (map deref_pair l.yielded)
