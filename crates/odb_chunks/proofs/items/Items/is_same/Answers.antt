use mathlib.Core.Path.{sym, ◌∙◌}
use Rattle.std.proofs.Common.{◌≤◌, length, arith}
use Rattle.std.specs.Cmp.Lexicographic.{pointwise}
use Rattle.odb_chunks.proofs.Parts.{parts_differ, parts_same}
use Rattle.odb_chunks.proofs.items.Items.is_same.Goals as goal

pub returns-then-ne : goal.returns-then-ne
returns-then-ne g c =
    let x = c.front-x in
    let y = c.front-y in
    let n = c.min-both.result in
    let low : n ≤ length x.result.now = omega (arith, c.min-both.ensures) in
    let high : n ≤ length y.result.now = omega (arith, c.min-both.ensures) in
    sym (sym c.loop-left.invariant ∙ parts_differ g.T.PartialEq.eq n x.result.now y.result.now c.loop-left.left c.loop-left.right _ _ x.ensures.front y.ensures.front low high (sym c.if-ne.true ∙ c.ne.ensures))

pub loop-left-preserved : goal.loop-left-preserved
loop-left-preserved g c =
    let x = c.front-x in
    let y = c.front-y in
    let n = c.min-both.result in
    let low : n ≤ length x.result.now = omega (arith, c.min-both.ensures) in
    let high : n ≤ length y.result.now = omega (arith, c.min-both.ensures) in
    (λ i. pointwise g.T.PartialEq.eq (c.pass.ensures i) (c.pass-in-loop-left.ensures i))
    ∙ parts_same g.T.PartialEq.eq n x.result.now y.result.now c.loop-left.left c.loop-left.right _ _ x.ensures.front y.ensures.front low high (sym c.if-ne.false ∙ c.ne.ensures)
    ∙ c.loop-left.invariant
