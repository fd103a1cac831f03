use Rattle.std.proofs.Common.{map}
use Rattle.std.specs.List.{list_any}
use Rattle.std.specs.Map.Iter.{deref_pair}
use Rattle.odb_atoms.specs.Row.{declared}
use Rattle.odb_interest.specs.Represented.Found.{Grows, names_some}
use Rattle.odb_interest.proofs.watched.find_declared.Given as goal

abbrev pub invariant-loop-place : goal.invariant-loop-place
invariant-loop-place l = Grows l.fn.found l.found (λ s. list_any (λ e. names_some e.1 (declared e.0) l.rows s) (map deref_pair l.yielded))
