use Rattle.std.proofs.Common.{rules, ◌≡◌, ℕ, List, [], ◌∷◌, ◌++◌, length, map, Option, Ok, refl, sym, ap, subst, ◌∙◌}
use Rattle.std.specs.Prelude.{slice_get, take}
use Rattle.std.specs.BTreeSet.{BTreeSet}
use Rattle.std.proofs.lemmas.List.{length-map}
use Rattle.odb_sessions.specs.Represented.Out.{sent_in}
use Rattle.odb_service.specs.Run.{Event, round}
use Rattle.odb_service.specs.Server.{serve}
use Rattle.odb_hub.specs.Guarded.{AreUnused, Guarded, Takes}
use Rattle.odb_hub.specs.GroupRounds.{TakesRound}
use Rattle.odb_hub.specs.Rings.{Rings, Text, ready_among}
use Rattle.odb_hub.proofs.Keeping.{counted_more, flushed_state, same_opened}
use Rattle.odb_hub.proofs.GroupRounds.{group_kept, group_rooms, group_unused}
use Rattle.odb_hub.proofs.state.HubState.round.Goals as goal

pub hand_over-requires : goal.hand_over-requires
hand_over-requires g c =
    let core = c.self.inside.core in
    let m : Rings = c.ready.new.self in
    let owed : BTreeSet ℕ = c.owed.result.now in
    let outs : List (ℕ × Text) = map sent_in c.in_ok-outs.outs.items in
    let listed : c.as_slice-listed.result.now ≡ take c.args.most (ready_among owed c.args.from m) = search rules in
    let went : serve (round c.as_slice-listed.result.now) core ≡ Ok (c.round_by.new.core, outs) = search rules in
    group_rooms m owed c.args.from c.args.most core c.round_by.new.core outs (ap (λ ss. serve (round ss) core) (sym listed) ∙ went)

pub invariant_of-self-2 : goal.invariant_of-self-2
invariant_of-self-2 g c =
    let i = c.self.inside in
    let m : Rings = c.ready.new.self in
    let owed : BTreeSet ℕ = c.owed.result.now in
    let outs : List (ℕ × Text) = map sent_in c.in_ok-outs.outs.items in
    let all : List ℕ = ready_among owed c.args.from m in
    let e : Event = round (take c.args.most all) in
    let k : Guarded = record { server = i.core; base = i.journal.base; events = i.journal.events; rings = i.rings } in
    let n : Guarded = record { server = c.round_by.new.core; base = c.with-self-inside.result.base; events = c.with-self-inside.result.events; rings = c.hand_over.new.self } in
    let listed : c.as_slice-listed.result.now ≡ take c.args.most all = search rules in
    let noted : n.events ≡ k.events ++ round c.as_slice-listed.result.now ∷ [] = search rules in
    let went : serve (round c.as_slice-listed.result.now) i.core ≡ Ok (c.round_by.new.core, outs) = search rules in
    let went_so : serve e i.core ≡ Ok (c.round_by.new.core, outs) = ap (λ ss. serve (round ss) i.core) (sym listed) ∙ went in
    let events : n.events ≡ k.events ++ e ∷ [] = noted ∙ ap (λ ss. k.events ++ round ss ∷ []) listed in
    let base : n.base ≡ k.base = search rules in
    let takes : Takes e k n outs = (went_so, events, base) in
    let t : TakesRound c.args.from c.args.most (length outs) (slice_get all c.args.most) k n = (owed, m, outs, c.owed.ensures, c.ready.ensures.flushed, takes, refl, refl, c.hand_over.ensures) in (
      group_kept c.args.from c.args.most (length outs) (slice_get all c.args.most) k n t c.self.invariant.0,
      subst (AreUnused n.rings) (sym (same_opened e i.core c.round_by.new.core outs went_so)) (group_unused c.args.from c.args.most (length outs) (slice_get all c.args.most) k n t i.core.opened c.self.invariant.1),
      c.saturating_add-self-inside.ensures ∙ counted_more i.since_base k.events n.events e c.self.invariant.2 events,
    )

pub returns-clause-ok : goal.returns-clause-ok
returns-clause-ok g c =
    let i = c.self.inside in
    let m : Rings = c.ready.new.self in
    let owed : BTreeSet ℕ = c.owed.result.now in
    let outs : List (ℕ × Text) = map sent_in c.in_ok-outs.outs.items in
    let all : List ℕ = ready_among owed c.args.from m in
    let e : Event = round (take c.args.most all) in
    let k : Guarded = record { server = i.core; base = i.journal.base; events = i.journal.events; rings = i.rings } in
    let n : Guarded = record { server = c.round_by.new.core; base = c.with-self-inside.result.base; events = c.with-self-inside.result.events; rings = c.hand_over.new.self } in
    let listed : c.as_slice-listed.result.now ≡ take c.args.most all = search rules in
    let noted : n.events ≡ k.events ++ round c.as_slice-listed.result.now ∷ [] = search rules in
    let went : serve (round c.as_slice-listed.result.now) i.core ≡ Ok (c.round_by.new.core, outs) = search rules in
    let went_so : serve e i.core ≡ Ok (c.round_by.new.core, outs) = ap (λ ss. serve (round ss) i.core) (sym listed) ∙ went in
    let events : n.events ≡ k.events ++ e ∷ [] = noted ∙ ap (λ ss. k.events ++ round ss ∷ []) listed in
    let base : n.base ≡ k.base = search rules in
    let takes : Takes e k n outs = (went_so, events, base) in
    let items : c.len-given.result ≡ length c.in_ok-outs.outs.items = search rules in
    let given : c.len-given.result ≡ length outs = items ∙ sym (length-map c.in_ok-outs.outs.items sent_in) in
    let next : c.in_ok-ready.ready.next ≡ slice_get all c.args.most = search rules in
    let t : TakesRound c.args.from c.args.most c.len-given.result c.in_ok-ready.ready.next k n = (owed, m, outs, c.owed.ensures, c.ready.ensures.flushed, takes, given, next, c.hand_over.ensures) in
    subst (λ (old : Guarded). TakesRound c.args.from c.args.most c.len-given.result c.in_ok-ready.ready.next old n) c.self.view_is t

pub invariant_of-self-in_err-outs : goal.invariant_of-self-in_err-outs
invariant_of-self-in_err-outs g c =
    let i = c.self.inside in
    let k : Guarded = record { server = i.core; base = i.journal.base; events = i.journal.events; rings = i.rings } in
    let same : c.round_by.new.core ≡ i.core = search rules in
    flushed_state k c.ready.new.self c.round_by.new.core i.since_base same c.ready.ensures.flushed c.self.invariant.0 c.self.invariant.1 c.self.invariant.2

pub invariant_of-self : goal.invariant_of-self
invariant_of-self g c =
    let i = c.self.inside in
    let k : Guarded = record { server = i.core; base = i.journal.base; events = i.journal.events; rings = i.rings } in
    flushed_state k c.ready.new.self i.core i.since_base refl c.ready.ensures.flushed c.self.invariant.0 c.self.invariant.1 c.self.invariant.2
