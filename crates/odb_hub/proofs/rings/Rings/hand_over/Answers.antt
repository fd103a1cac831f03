use Rattle.std.proofs.Common.{rules, ◌≡◌, ◌==◌, ℕ, List, [], ◌∷◌, length, map, sym, ap, subst, ◌∙◌}
use Rattle.std.proofs.lemmas.List.{nil_from_length}
use Rattle.odb_atoms.specs.FinMap.{get}
use Rattle.odb_sessions.specs.declared.out.Out.{Out}
use Rattle.odb_sessions.specs.Represented.Out.{sent_in}
use Rattle.odb_hub.specs.Rings.{HandsOver, HasRoom, IsPutAt, Rings, Text, texts_to}
use Rattle.odb_hub.proofs.HandingOver.{hand_step, nothing_more, room_first}
use Rattle.odb_hub.proofs.rings.Rings.hand_over.Goals as goal

pub loop-out-init : goal.loop-out-init
loop-out-init c =
    let all : c.into_iter-out-iterator.result.rest.items ≡ c.args.outs.items = search rules in
    ((λ s. subst (λ os. HasRoom (get c.args.self.now s) (texts_to s (map sent_in os))) (sym all) (c.requires s)), λ s o h. h)

pub put-requires : goal.put-requires
put-requires c =
    let steps : c.loop-out.out-iterator.rest.items ≡ c.in-Some.out ∷ c.next.new.self.rest.items = search rules in
    let rest : List (ℕ × Text) = map sent_in c.next.new.self.rest.items in
    let all : List (ℕ × Text) = map sent_in c.loop-out.out-iterator.rest.items in
    room_first c.loop-out.self (sent_in c.in-Some.out) rest all (ap (map sent_in) steps) c.loop-out.invariant.0

pub loop-out-preserved : goal.loop-out-preserved
loop-out-preserved c =
    let steps : c.loop-out.out-iterator.rest.items ≡ c.in-Some.out ∷ c.next.new.self.rest.items = search rules in
    let rest : List (ℕ × Text) = map sent_in c.next.new.self.rest.items in
    let all : List (ℕ × Text) = map sent_in c.loop-out.out-iterator.rest.items in
    let put : (s : ℕ) → IsPutAt ((sent_in c.in-Some.out).0 == s) (sent_in c.in-Some.out).1 (get c.loop-out.self s) (get c.add_if_holding.new.self s) =
    subst (λ (m : Rings). (s : ℕ) → IsPutAt ((sent_in c.in-Some.out).0 == s) (sent_in c.in-Some.out).1 (get c.loop-out.self s) (get m s)) (sym c.add_if_holding.ensures) c.put.ensures in
    let one = hand_step c.loop-out.self c.add_if_holding.new.self (sent_in c.in-Some.out) rest all (ap (map sent_in) steps) c.loop-out.invariant.0 put in
    ((λ s. (one s).0), λ s o h. c.loop-out.invariant.1 s o ((one s).1 o h))

pub returns : goal.returns
returns c s =
    let all : c.into_iter-out-iterator.result.rest.items ≡ c.args.outs.items = search rules in
    let items : List Out = c.loop-out.out-iterator.rest.items in
    let long : length items ≡ c.loop-out.out-iterator.rest.len = search rules in
    let none : items ≡ [] = nil_from_length items (long ∙ c.in-None.ensures.steps.0) in
    let over : HandsOver (get c.loop-out.self s) (texts_to s (map sent_in items)) (get c.loop-out.self s) = subst (λ os. HandsOver (get c.loop-out.self s) (texts_to s (map sent_in os)) (get c.loop-out.self s)) (sym none) (nothing_more (get c.loop-out.self s)) in
    subst (λ os. HandsOver (get c.args.self.now s) (texts_to s (map sent_in os)) (get c.loop-out.self s)) all (c.loop-out.invariant.1 s (get c.loop-out.self s) over)
