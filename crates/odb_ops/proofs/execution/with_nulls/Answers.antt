use Rattle.std.proofs.Common.{◌≡◌, ◌≤◌, ◌++◌, ◌∷◌, [], List, arith, replicate, ap, ◌∙◌}
use Rattle.std.proofs.lemmas.List.{append_assoc, replicate-append-replicate}
use Rattle.odb_schema.specs.Json.{Data, null}
use Rattle.odb_ops.proofs.execution.with_nulls.Goals as goal

pub loop-preserved : goal.loop-preserved
loop-preserved c =
    let before : List Data = c.args.results.items in
    let n = c.loop.counter in
    let items : c.push.new.self.items ≡ c.loop.results.items ++ c.in_ok-not_reached.field-0 ∷ [] = c.in_ok-push.ensures.items in
    let seen : c.in_ok-not_reached.field-0 ≡ null = c.in_ok-not_reached.ensures in
    items ∙ (λ i. c.loop.invariant i ++ seen i ∷ [])
    ∙ append_assoc before (replicate n null) (null ∷ []) ∙ ap (λ ds. before ++ ds) (replicate-append-replicate n 1 null)

pub returns : goal.returns
returns c =
    let low : c.args.nulls ≤ c.loop.counter = c.loop-test.false in
    let high : c.loop.counter ≤ c.args.nulls = c.loop.auto.counter-end in
    let all : c.loop.counter ≡ c.args.nulls = omega (arith, low, high) in
    c.loop.invariant ∙ ap (λ n. c.args.results.items ++ replicate n null) all
