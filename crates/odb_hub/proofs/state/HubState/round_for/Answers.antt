use Rattle.std.proofs.Common.{rules, ◌≡◌, ℕ, List, [], ◌∷◌, ◌++◌, true, false, length, map, Ok, refl, sym, subst, ◌∙◌}
use Rattle.std.proofs.lemmas.List.{length-map}
use Rattle.odb_atoms.specs.FinMap.{get}
use Rattle.odb_sessions.specs.Represented.Out.{sent_in}
use Rattle.odb_service.specs.Run.{Event, round}
use Rattle.odb_service.specs.Server.{serve}
use Rattle.odb_hub.specs.Guarded.{AreUnused, Guarded, Takes}
use Rattle.odb_hub.specs.Own.{FlushesOwn, TakesOwnRound}
use Rattle.odb_hub.specs.Rings.{Rings, Text, is_free_at, texts_to}
use Rattle.odb_hub.proofs.Keeping.{counted_more, flushed_state, same_opened, unused_grown}
use Rattle.odb_hub.proofs.OwnRounds.{own_grown, own_kept, own_rooms, own_round, own_waits}
use Rattle.odb_hub.proofs.state.HubState.round_for.Goals as goal

pub hand_over-requires : goal.hand_over-requires
hand_over-requires g c =
    let s : ℕ = c.args.session in
    let m : Rings = c.ready_for.new.self in
    let outs : List (ℕ × Text) = map sent_in c.in_ok-outs.outs.items in
    let went : serve (round (s ∷ [])) c.self.inside.core ≡ Ok (c.round_of.new.core, outs) = search rules in
    let free : is_free_at (get m s) ≡ true = search rules in
    own_rooms m s c.self.inside.core c.round_of.new.core outs free went

pub invariant_of-self-2 : goal.invariant_of-self-2
invariant_of-self-2 g c =
    let i = c.self.inside in
    let s : ℕ = c.args.session in
    let e : Event = round (s ∷ []) in
    let m : Rings = c.ready_for.new.self in
    let outs : List (ℕ × Text) = map sent_in c.in_ok-outs.outs.items in
    let k : Guarded = record { server = i.core; base = i.journal.base; events = i.journal.events; rings = i.rings } in
    let n : Guarded = record { server = c.round_of.new.core; base = c.with-self-inside.result.base; events = c.with-self-inside.result.events; rings = c.hand_over.new.self } in
    let went : serve e i.core ≡ Ok (c.round_of.new.core, outs) = search rules in
    let free : is_free_at (get m s) ≡ true = search rules in
    let events : n.events ≡ k.events ++ e ∷ [] = search rules in
    let base : n.base ≡ k.base = search rules in
    let takes : Takes e k n outs = (went, events, base) in
    let t : TakesOwnRound s (length outs) k n = own_round s k n m outs c.ready_for.ensures.flushed c.ready_for.ensures.others free takes c.hand_over.ensures in (
      own_kept s (length outs) k n c.self.invariant.0 t,
      subst (AreUnused n.rings) (sym (same_opened e i.core c.round_of.new.core outs went)) (unused_grown i.rings c.hand_over.new.self i.core.opened (λ q. texts_to q t.1) (own_grown s (length outs) k n t) c.self.invariant.1),
      c.saturating_add-self-inside.ensures ∙ counted_more i.since_base k.events n.events e c.self.invariant.2 events,
    )

pub returns-clause-ok : goal.returns-clause-ok
returns-clause-ok g c =
    let i = c.self.inside in
    let s : ℕ = c.args.session in
    let e : Event = round (s ∷ []) in
    let m : Rings = c.ready_for.new.self in
    let outs : List (ℕ × Text) = map sent_in c.in_ok-outs.outs.items in
    let k : Guarded = record { server = i.core; base = i.journal.base; events = i.journal.events; rings = i.rings } in
    let n : Guarded = record { server = c.round_of.new.core; base = c.with-self-inside.result.base; events = c.with-self-inside.result.events; rings = c.hand_over.new.self } in
    let went : serve e i.core ≡ Ok (c.round_of.new.core, outs) = search rules in
    let free : is_free_at (get m s) ≡ true = search rules in
    let events : n.events ≡ k.events ++ e ∷ [] = search rules in
    let base : n.base ≡ k.base = search rules in
    let takes : Takes e k n outs = (went, events, base) in
    let t : TakesOwnRound s (length outs) k n = own_round s k n m outs c.ready_for.ensures.flushed c.ready_for.ensures.others free takes c.hand_over.ensures in
    let items : c.len-count.result ≡ length c.in_ok-outs.outs.items = search rules in
    let count : c.len-count.result ≡ length outs = items ∙ sym (length-map c.in_ok-outs.outs.items sent_in) in
    subst (λ (old : Guarded). TakesOwnRound s c.len-count.result old n) c.self.view_is (subst (λ q. TakesOwnRound s q k n) (sym count) t)

pub returns-then-not-ready-clause-ok : goal.returns-then-not-ready-clause-ok
returns-then-not-ready-clause-ok g c =
    let i = c.self.inside in
    let s : ℕ = c.args.session in
    let k : Guarded = record { server = i.core; base = i.journal.base; events = i.journal.events; rings = i.rings } in
    let n : Guarded = record { server = i.core; base = i.journal.base; events = i.journal.events; rings = c.ready_for.new.self } in
    let flushed : FlushesOwn s k n = (refl, refl, refl, c.ready_for.ensures.flushed s, c.ready_for.ensures.others) in
    let holds : is_free_at (get n.rings s) ≡ false = search rules in
    subst (λ (old : Guarded). TakesOwnRound s 0 old n) c.self.view_is (own_waits s k n flushed holds)

pub invariant_of-self : goal.invariant_of-self
invariant_of-self g c =
    let i = c.self.inside in
    let k : Guarded = record { server = i.core; base = i.journal.base; events = i.journal.events; rings = i.rings } in
    flushed_state k c.ready_for.new.self i.core i.since_base refl c.ready_for.ensures.flushed c.self.invariant.0 c.self.invariant.1 c.self.invariant.2

pub invariant_of-self-in_err-outs : goal.invariant_of-self-in_err-outs
invariant_of-self-in_err-outs g c =
    let i = c.self.inside in
    let k : Guarded = record { server = i.core; base = i.journal.base; events = i.journal.events; rings = i.rings } in
    let same : c.round_of.new.core ≡ i.core = search rules in
    flushed_state k c.ready_for.new.self c.round_of.new.core i.since_base same c.ready_for.ensures.flushed c.self.invariant.0 c.self.invariant.1 c.self.invariant.2
