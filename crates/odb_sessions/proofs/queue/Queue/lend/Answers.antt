use Rattle.std.proofs.Common.{rules, ◌≡◌, List, [], ◌∷◌, ◌++◌, flat_map, map, subst, ap, ◌∙◌}
use Rattle.std.proofs.lemmas.List.{nil_from_length}
use Rattle.odb_sessions.specs.Marked.{MarkedItem, marks_due}
use Rattle.odb_sessions.specs.Represented.Item.{marked_item_of}
use Rattle.odb_sessions.specs.declared.item.Item.{Item}
use Rattle.odb_sessions.proofs.Lent.{Lends, lends_all, lends_on, seen}
use Rattle.odb_sessions.proofs.queue.Queue.lend.Goals as goal

pub loop-item-preserved : goal.loop-item-preserved
loop-item-preserved c =
    let old = c.loop-item in
    let start = c.into_iter-item-iterator.result in
    let all : List MarkedItem = map marked_item_of (start.head.now ++ start.wrapped.now) in
    let rest : List Item = c.next.new.self.head.now ++ c.next.new.self.wrapped.now in
    let step : old.item-iterator.head.now ++ old.item-iterator.wrapped.now ≡ c.in-Some.item.now ∷ rest = search rules in
    lends_on marks_due c.args.marks.now.items old.marks.items c.lend_item.new.marks.items all (map marked_item_of rest) (marked_item_of c.in-Some.item.now)
    (subst (λ (is : List Item). Lends marks_due c.args.marks.now.items all old.marks.items (map marked_item_of is)) step old.invariant)
    c.in_ok-lend_item.ensures

pub returns : goal.returns
returns c =
    let old = c.loop-item in
    let start = c.into_iter-item-iterator.result in
    let rest : List Item = old.item-iterator.head.now ++ old.item-iterator.wrapped.now in
    let none : rest ≡ [] = nil_from_length rest c.in-None.ensures.steps.0 in
    let all : start.head.now ++ start.wrapped.now ≡ c.self.inside.items.items = search rules in
    lends_all marks_due c.args.marks.now.items old.marks.items (map marked_item_of (start.head.now ++ start.wrapped.now)) (map marked_item_of rest) (ap (map marked_item_of) none) old.invariant
    ∙ ap (λ (qs : List MarkedItem). seen c.args.marks.now.items ++ flat_map marks_due qs) (ap (map marked_item_of) all ∙ c.self.view_is)
