use mathlib.Core.Path.{ap, subst, ◌∙◌}
use Rattle.odb_chunks.specs.Represented.Chunks.{AreFilled}
use Rattle.odb_chunks.proofs.Chunked.{front, passed_slice}
use Rattle.odb_chunks.proofs.items.after.Goals as goal

pub loop-front_left-preserved : goal.loop-front_left-preserved
loop-front_left-preserved g c =
    let at = c.loop-front_left in
    let some = front at.later_left.now c.chunk-item.result c.in-len1-up.len_at_least c.chunk-item.is in
    let lies = c.as_slice-front_left.ensures.value ∙ ap (λ v. v.items) c.deref.ensures in
    let filled = subst AreFilled some at.invariant.1 in (
      passed_slice at.left at.front_left.now c.as_slice-front_left.result.now c.chunk-item.result at.later_left.now _ c.loop-front_left-test.true some lies ∙ at.invariant.0,
      filled.1,
    )
