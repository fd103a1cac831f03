use Rattle.std.proofs.Common.{◌≡◌, ◌++◌}
use Rattle.odb_par.proofs.picking.known_parts.Given as goal

abbrev pub invariant-loop-part : goal.invariant-loop-part
invariant-loop-part g l = l.known.items ++ l.part-iterator.rest.items ≡ l.initial.part-iterator.rest.items
