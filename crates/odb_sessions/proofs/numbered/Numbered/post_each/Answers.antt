use Rattle.std.proofs.Common.{rules, ◌≡◌, List, [], ◌∷◌, length, map, sym, ap, ◌∙◌}
use Rattle.std.proofs.lemmas.List.{nil_from_length}
use Rattle.odb_sessions.specs.Marked.{MarkedItem, Sessions}
use Rattle.odb_sessions.specs.Posts.{at_number, marked_unposted, with_item, with_items}
use Rattle.odb_sessions.specs.Represented.Item.{marked_item_of}
use Rattle.odb_sessions.specs.declared.item.Item.{Item}
use Rattle.odb_sessions.proofs.Posts.{with_more, with_none}
use Rattle.odb_sessions.proofs.numbered.Numbered.post_each.Goals as goal

pub returns-clause-ok : goal.returns-clause-ok
returns-clause-ok c =
    let old = c.loop-item in
    let s = c.args.session in
    let all : c.into_iter-item-iterator.result.rest.items ≡ c.args.items.items = search rules in
    let long : length old.item-iterator.rest.items ≡ old.item-iterator.rest.len = search rules in
    let none : old.item-iterator.rest.items ≡ [] = nil_from_length old.item-iterator.rest.items (long ∙ c.in-None.ensures.steps.0) in
    sym (ap (λ (is : List Item). at_number (with_items (map marked_item_of is)) old.self s) none ∙ with_none old.self s) ∙ old.invariant.posted
    ∙ ap (λ (is : List Item). at_number (with_items (map marked_item_of is)) c.args.self.now s) all

pub loop-item-preserved : goal.loop-item-preserved
loop-item-preserved c =
    let old = c.loop-item in
    let s = c.args.session in
    let rest : List Item = c.next.new.self.rest.items in
    let q : MarkedItem = marked_item_of c.in-Some.item in
    let step : old.item-iterator.rest.items ≡ c.in-Some.item ∷ rest = search rules in
    let posted : c.post.new.self ≡ at_number (with_item q) old.self s = search rules in
    let back : marked_unposted c.post.new.posted_to.items c.post.new.self ≡ marked_unposted old.posted_to.items old.self = search rules in
    record {
      posted =
          ap (λ (m : Sessions). at_number (with_items (map marked_item_of rest)) m s) posted ∙ with_more q (map marked_item_of rest) old.self s
          ∙ ap (λ (is : List Item). at_number (with_items (map marked_item_of is)) old.self s) (sym step) ∙ old.invariant.posted;
      back = back ∙ old.invariant.back;
    }
