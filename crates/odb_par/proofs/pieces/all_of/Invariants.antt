use Rattle.std.proofs.Common.{◌≡◌, ◌++◌, Ok, map}
use Rattle.odb_par.proofs.pieces.all_of.Given as goal

abbrev pub invariant-loop-text : goal.invariant-loop-text
invariant-loop-text l = map Ok l.all.items ++ l.text-iterator.rest.items ≡ l.initial.text-iterator.rest.items
