use Rattle.std.proofs.Common.{◌≡◌, map, take}
use Rattle.odb_chain.specs.Represented.Chain.{is_moved}
use Rattle.odb_chain.proofs.chains.moved_tables.Given as goal

abbrev pub invariant-loop-change : goal.invariant-loop-change
invariant-loop-change l = l.moved.items ≡ map is_moved (take l.change-index l.changes)
