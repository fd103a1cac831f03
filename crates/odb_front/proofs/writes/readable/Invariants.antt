use Rattle.std.proofs.Common.{◌≡◌, map, take}
use Rattle.serde_json.specs.View.{view}
use Rattle.odb_front.specs.Writes.{read_only}
use Rattle.odb_front.proofs.writes.readable.Given as goal

-- those so far
abbrev pub invariant-loop-operation : goal.invariant-loop-operation
invariant-loop-operation l = map view l.read.items ≡ map (λ o. read_only (view o)) (take l.operation-index l.operations)
