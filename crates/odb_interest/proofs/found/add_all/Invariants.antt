use Rattle.std.proofs.Common.{map}
use Rattle.std.specs.BTreeMap.{is_at}
use Rattle.std.specs.List.{list_any}
use Rattle.std.specs.Map.Iter.{deref}
use Rattle.std.specs.Ordering.{nat_cmp}
use Rattle.odb_interest.specs.Represented.Found.{Grows}
use Rattle.odb_interest.proofs.found.add_all.Given as goal

abbrev pub invariant-loop-session : goal.invariant-loop-session
invariant-loop-session l = Grows l.fn.found l.found (λ s. list_any (is_at (nat_cmp s)) (map deref l.yielded))
