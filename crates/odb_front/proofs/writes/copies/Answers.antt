use Rattle.std.proofs.Common.{map, ap, ◌∙◌}
use Rattle.std.proofs.lemmas.List.{take_all}
use Rattle.serde_json.specs.View.{view}
use Rattle.odb_front.proofs.writes.copies.Goals as goal

pub returns : goal.returns
returns c = c.loop-value.invariant ∙ ap (map view) (take_all c.loop-value.value-index c.args.values.now c.loop-value-test.false)
