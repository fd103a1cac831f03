use mathlib.Core.Path.{subst}
use Rattle.std.proofs.Common.{drop}
use Rattle.std.specs.Arc.{arc_value}
use Rattle.odb_atoms.proofs.Chunks.{filled_drop, opened_chunks, rising_later, rising_slice}
use Rattle.odb_atoms.proofs.Parted.{next_chunk, rest_rises, run_rises}
use Rattle.odb_atoms.proofs.Rising.{front}
use Rattle.odb_chunks.specs.Represented.Chunks.{AreFilled, items_in}
use Rattle.odb_atoms.proofs.entry.changed_in_chunks.Goals as goal

pub push_changed-requires-clause-rising : goal.push_changed-requires-clause-rising
push_changed-requires-clause-rising g c =
    let left = c.loop-chunks_left.chunks_left.now in
    let some = front left c.chunk-item.result c.in-len1-up.len_at_least c.chunk-item.is in
    rising_slice g.E.Entry.entry (items_in left) (arc_value c.chunk-item.result).items _ (opened_chunks left c.chunk-item.result _ some) c.loop-chunks_left.invariant.rising

pub push_changed-requires-clause-run_rising : goal.push_changed-requires-clause-run_rising
push_changed-requires-clause-run_rising g c =
    let cut = c.split_at in
    run_rises g.E.Entry.entry _ c.loop-chunks_left.few_left.now cut.result.0.now cut.result.1.now cut.ensures.front cut.ensures.back c.loop-chunks_left.invariant.few_rising

pub loop-chunks_left-preserved : goal.loop-chunks_left-preserved
loop-chunks_left-preserved g c =
    let entry = g.E.Entry.entry in
    let at = c.loop-chunks_left in
    let left = at.chunks_left.now in
    let chunk = (arc_value c.chunk-item.result).items in
    let cut = c.split_at in
    let some = front left c.chunk-item.result c.in-len1-up.len_at_least c.chunk-item.is in
    let lies = opened_chunks left c.chunk-item.result _ some in
    let filled = subst (λ cs. AreFilled (drop 1 cs)) some at.invariant.filled in
    record {
      done = next_chunk entry _ at.few_left.now cut.result.0.now cut.result.1.now cut.ensures.front cut.ensures.back _ _ _ (items_in left) chunk _ lies at.invariant.rising c.count_for.ensures.before c.count_for.ensures.from c.in_ok-push_changed.ensures at.invariant.done;
      rising = rising_later entry (items_in left) chunk _ lies at.invariant.rising;
      few_rising = rest_rises entry _ at.few_left.now cut.result.0.now cut.result.1.now cut.ensures.front cut.ensures.back at.invariant.few_rising;
      filled = filled_drop 1 _ filled;
    }

pub count_for-requires : goal.count_for-requires
count_for-requires g c =
    let left = c.loop-chunks_left.chunks_left.now in
    let some = front left c.chunk-item.result c.in-len1-up.len_at_least c.chunk-item.is in
    subst (λ cs. AreFilled (drop 1 cs)) some c.loop-chunks_left.invariant.filled
