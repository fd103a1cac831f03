use Rattle.std.proofs.Common.{rules, ◌≡◌, ◌∙◌, length, ap}
use Rattle.std.proofs.lemmas.List.{nil_from_length}
use Rattle.odb_wire.specs.Stream.{skip_blanks}
use Rattle.odb_wire.proofs.Steps.{between, stopped-none, stopped-bad, so_far-start, so_far-read, kinds-push, left_shorter}
use Rattle.odb_wire.proofs.split.split.Goals as goal

pub loop-left-init : goal.loop-left-init
loop-left-init c =
    record { clean = c.skip_blanks-left.ensures.no_more; so_far = so_far-start c.args.most _ _ _ c.skip_blanks-left.ensures.rest; kinds = λ all. all }

pub returns-in-None-clause-ok : goal.returns-in-None-clause-ok
returns-in-None-clause-ok c =
    rw c.stopped.ensures (stopped-none c.args.most _ _ _ _ _ _ _ c.loop-left.invariant.so_far c.in-Whole.ensures c.split_at.ensures.front c.in_ok-message-in-Whole.ensures.data c.in-None.is)

pub loop-left-smaller : goal.loop-left-smaller
loop-left-smaller c = left_shorter c.args.most _ _ _ c.in-Whole.ensures (c.skip_blanks-left-in-Whole.ensures.rest ∙ ap skip_blanks c.split_at.ensures.back)

pub loop-left-preserved : goal.loop-left-preserved
loop-left-preserved c =
    record {
      clean = c.skip_blanks-left-in-Whole.ensures.no_more;
      so_far = so_far-read c.args.most _ _ _ _ _ _ _ _ _ _ _ c.loop-left.invariant.so_far c.in-Whole.ensures c.split_at.ensures.front c.split_at.ensures.back c.in_ok-message-in-Whole.ensures.data
          c.in-Some.is c.in_ok-push-in-Some.ensures.items c.skip_blanks-left-in-Whole.ensures.rest;
      kinds = λ all. kinds-push _ _ _ _ (c.loop-left.invariant.kinds all) c.in_ok-message-in-Whole.ensures.kind c.in-Some.is c.in_ok-push-in-Some.ensures.items;
    }

pub returns-in-Bad-clause-ok : goal.returns-in-Bad-clause-ok
returns-in-Bad-clause-ok c = rw c.stopped-in-Bad.ensures (stopped-bad c.args.most _ _ _ _ c.loop-left.invariant.so_far c.loop-left.invariant.clean c.in-Bad.ensures)

pub returns-clause-ok : goal.returns-clause-ok
returns-clause-ok c =
    let none : length c.loop-left.left.now ≡ 0 = search rules in
    between c.args.most _ _ _ _ _ c.loop-left.invariant.so_far (nil_from_length c.loop-left.left.now none) (c.between.ensures.stands c.args.most) (c.between.ensures.fresh c.args.most)
