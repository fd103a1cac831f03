use Rattle.std.proofs.Common.{rules, ◌≡◌, List, [], ◌∷◌, ◌++◌, map, sym, ap, ◌∙◌}
use Rattle.std.proofs.lemmas.List.{nil_from_length}
use Rattle.odb_sessions.specs.Marked.{MarkedItem, item_seen}
use Rattle.odb_sessions.specs.Named.{Named, named_after}
use Rattle.odb_sessions.specs.Represented.Item.{marked_item_of}
use Rattle.odb_sessions.specs.declared.item.Item.{Item}
use Rattle.odb_sessions.proofs.queue.Queue.ask_of.Goals as goal

pub loop-item-preserved : goal.loop-item-preserved
loop-item-preserved c =
    let old = c.loop-item in
    let rest : List Item = c.next.new.self.head.now ++ c.next.new.self.wrapped.now in
    let step : old.item-iterator.head.now ++ old.item-iterator.wrapped.now ≡ c.in-Some.item.now ∷ rest = search rules in
    ap (named_after (map item_seen (map marked_item_of rest))) c.in_ok-ask_of.ensures
    ∙ ap (λ (is : List Item). named_after (map item_seen (map marked_item_of is)) old.named.items) (sym step) ∙ old.invariant

pub returns : goal.returns
returns c =
    let old = c.loop-item in
    let ns : List Named = c.args.named.now.items in
    let none : old.item-iterator.head.now ++ old.item-iterator.wrapped.now ≡ [] = nil_from_length (old.item-iterator.head.now ++ old.item-iterator.wrapped.now) c.in-None.ensures.steps.0 in
    let all : c.into_iter-item-iterator.result.head.now ++ c.into_iter-item-iterator.result.wrapped.now ≡ c.self.inside.items.items = search rules in
    sym (ap (λ (is : List Item). named_after (map item_seen (map marked_item_of is)) old.named.items) none) ∙ old.invariant
    ∙ ap (λ (is : List Item). named_after (map item_seen (map marked_item_of is)) ns) all ∙ ap (λ (qs : List MarkedItem). named_after (map item_seen qs) ns) c.self.view_is
