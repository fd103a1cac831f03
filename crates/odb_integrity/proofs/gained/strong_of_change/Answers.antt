use Rattle.std.proofs.Common.{rules, ◌≡◌, ap, ◌∙◌}
use Rattle.std.proofs.lemmas.Result.{IfOk-weaker}
use Rattle.odb_atoms.specs.ColType.{value_base}
use Rattle.odb_atoms.specs.Represented.ColType.{type_of}
use Rattle.odb_integrity.specs.Settlement.{strong_target}
use Rattle.odb_integrity.proofs.Gains.{map_strong}
use Rattle.odb_integrity.proofs.gained.strong_of_change.Goals as goal

pub returns-in-Map : goal.returns-in-Map
returns-in-Map c =
    let s = c.args.schema.now in
    let t = type_of c.args.column.now in
    let keys : c.strong_target.result ≡ strong_target s t.key = search rules in
    let values : c.strong_target-in-Map.result ≡ strong_target s (value_base t) = c.strong_target-in-Map.ensures ∙ ap (strong_target s) c.value_base.ensures in
    IfOk-weaker c.of_pairs.result _ _ (λ rows is. is ∙ map_strong s t c.in-Map.pairs c.args.change.now c.args.now.now c.in-Map.ensures.listed c.strong_target.result c.strong_target-in-Map.result keys values) c.of_pairs.ensures
