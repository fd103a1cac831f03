use Rattle.std.proofs.Common.{rules, ◌≡◌, List, [], ◌∷◌, ◌++◌, length, map, ap, sym, ◌∙◌, append_assoc}
use Rattle.std.proofs.lemmas.List.{append-nil, map-append, nil_from_length}
use Rattle.std.specs.Arc.{arc_value}
use Rattle.odb_queue.specs.Represented.Item.{item_of}
use Rattle.odb_service.specs.Session.{sync}
use Rattle.odb_sessions.specs.Marked.{MarkedItem, plain}
use Rattle.odb_sessions.specs.Represented.Item.{marked_item_of}
use Rattle.odb_sessions.specs.declared.item.Item.TheVariants as item
use Rattle.odb_sessions.proofs.asked.ending.Goals as goal

pub loop-id-init : goal.loop-id-init
loop-id-init c =
    let none : c.new-items.result.items ≡ [] = search rules in
    ap (λ is. map marked_item_of is ++ map (λ i. plain (sync (arc_value i))) c.into_iter-id-iterator.result.rest.items) none

pub loop-id-preserved : goal.loop-id-preserved
loop-id-preserved c =
    let old = c.loop-id in
    let i = c.in-Some.id in
    let rest : List MarkedItem = map (λ j. plain (sync (arc_value j))) c.next.new.self.rest.items in
    let pushed : c.push.new.self.items ≡ old.items.items ++ item.Sync i ∷ [] = search rules in
    let step : old.id-iterator.rest.items ≡ i ∷ c.next.new.self.rest.items = search rules in
    ap (λ is. map marked_item_of is ++ rest) pushed ∙ ap (λ qs. qs ++ rest) (map-append marked_item_of old.items.items (item.Sync i ∷ []))
    ∙ append_assoc (map marked_item_of old.items.items) (plain (sync (arc_value i)) ∷ []) rest
    ∙ ap (λ js. map marked_item_of old.items.items ++ map (λ j. plain (sync (arc_value j))) js) (sym step) ∙ old.invariant

pub returns : goal.returns
returns c =
    let old = c.loop-id in
    let reply : MarkedItem = plain (item_of c.args.reply) in
    let pushed : c.push-2.new.self.items ≡ old.items.items ++ item.Say c.args.reply ∷ [] = search rules in
    let all : c.into_iter-id-iterator.result.rest.items ≡ c.args.ids.items = search rules in
    let long : length old.id-iterator.rest.items ≡ old.id-iterator.rest.len = search rules in
    let none : old.id-iterator.rest.items ≡ [] = nil_from_length old.id-iterator.rest.items (long ∙ c.in-None.ensures.steps.0) in
    let done : map marked_item_of old.items.items ≡ map (λ i. plain (sync (arc_value i))) c.args.ids.items =
    sym (append-nil (map marked_item_of old.items.items)) ∙ sym (ap (λ js. map marked_item_of old.items.items ++ map (λ j. plain (sync (arc_value j))) js) none)
    ∙ old.invariant ∙ ap (map (λ i. plain (sync (arc_value i)))) all in
    ap (map marked_item_of) pushed ∙ map-append marked_item_of old.items.items (item.Say c.args.reply ∷ []) ∙ ap (λ qs. qs ++ reply ∷ []) done
