use Rattle.std.proofs.Common.{map, ap, ◌∙◌}
use Rattle.std.proofs.lemmas.List.{take_all}
use Rattle.serde_json.specs.View.{view}
use Rattle.odb_front.specs.Writes.{read_only}
use Rattle.odb_front.proofs.Lists.{map_twice}
use Rattle.odb_front.proofs.writes.readable.Goals as goal

pub returns : goal.returns
returns c =
    c.loop-operation.invariant ∙ ap (map (λ o. read_only (view o))) (take_all c.loop-operation.operation-index c.args.operations.now c.loop-operation-test.false)
    ∙ map_twice read_only view c.args.operations.now
