use Rattle.std.proofs.Common.{rules, ◌≡◌, ◌<◌, filter, length, ap, ◌∙◌}
use Rattle.std.proofs.lemmas.List.{nil_from_length}
use Rattle.odb_integrity.specs.Touched.{is_lost}
use Rattle.odb_integrity.proofs.Rounds.{fewer_there, last_round, lost_inside, next_round, some_member}
use Rattle.odb_integrity.proofs.garbage.remove_lost.Goals as goal

pub returns-then-is_empty-clause-kept : goal.returns-then-is_empty-clause-kept
returns-then-is_empty-clause-kept c =
    let s = c.args.schema.now in
    let now = c.loop-waiting.draft.now in
    let waiting = c.loop-waiting.waiting.items in
    let lost = c.in_ok-lost.lost.items in
    let is : lost ≡ filter (is_lost s now) waiting = c.in_ok-lost.ensures ∙ ap (filter (is_lost s now)) c.deref.ensures.value in
    let none : length lost ≡ 0 = search rules in
    last_round s c.args.draft.now.now now waiting lost c.loop-waiting.invariant.round is (nil_from_length lost none)

pub take_out-requires : goal.take_out-requires
take_out-requires c =
    let s = c.args.schema.now in
    let now = c.loop-waiting.draft.now in
    let waiting = c.loop-waiting.waiting.items in
    let lost = c.deref-in-loop-waiting.result.now in
    let is : lost ≡ filter (is_lost s now) waiting = c.deref-in-loop-waiting.ensures.value ∙ c.in_ok-lost.ensures ∙ ap (filter (is_lost s now)) c.deref.ensures.value in
    record { in_tables = lost_inside s c.args.draft.now.now now waiting lost c.loop-waiting.invariant.round is }

pub loop-waiting-smaller : goal.loop-waiting-smaller
loop-waiting-smaller c =
    let s = c.args.schema.now in
    let now = c.loop-waiting.draft.now in
    let waiting = c.loop-waiting.waiting.items in
    let lost = c.deref-in-loop-waiting.result.now in
    let is : lost ≡ filter (is_lost s now) waiting = c.deref-in-loop-waiting.ensures.value ∙ c.in_ok-lost.ensures ∙ ap (filter (is_lost s now)) c.deref.ensures.value in
    let some : 0 < length lost = search rules in
    let one = some_member lost some in
    fewer_there s c.args.draft.now.now now waiting lost c.loop-waiting.invariant.round is c.take_out.new.draft.now c.in_ok-next.ensures.removed one.0 one.1

pub loop-waiting-preserved : goal.loop-waiting-preserved
loop-waiting-preserved c =
    let s = c.args.schema.now in
    let now = c.loop-waiting.draft.now in
    let waiting = c.loop-waiting.waiting.items in
    let lost = c.deref-in-loop-waiting.result.now in
    let is : lost ≡ filter (is_lost s now) waiting = c.deref-in-loop-waiting.ensures.value ∙ c.in_ok-lost.ensures ∙ ap (filter (is_lost s now)) c.deref.ensures.value in
    record {
      base = c.in_ok-next.ensures.base ∙ c.loop-waiting.invariant.base;
      round = next_round s c.args.draft.now.now now waiting lost c.loop-waiting.invariant.round is c.take_out.new.draft.now c.in_ok-next.ensures.removed c.in_ok-next.next.items c.in_ok-next.ensures.referents;
    }
