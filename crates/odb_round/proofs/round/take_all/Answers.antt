use Rattle.std.proofs.Common.{rules, ◌≡◌, ℕ, suc, ◌≤◌, ◌+◌, ◌++◌, ◌∷◌, [], List, Some, None, length, map, append-nil, refl, sym, ap, subst, ◌∙◌, arith}
use Rattle.std.specs.Prelude.{option_map, vec_capacity, vec_len}
use Rattle.std.proofs.lemmas.List.{map-append, nil_from_length}
use Rattle.odb_service.specs.Run.{take_each}
use Rattle.odb_service.specs.Server.{printed, served_by}
use Rattle.odb_service.specs.World.{World}
use Rattle.odb_sessions.specs.Book.{Book, revision_in}
use Rattle.odb_round.specs.Planned.{AreOnce}
use Rattle.odb_sessions.specs.Represented.Out.{sent_in}
use Rattle.odb_round.specs.Represented.Taking.{pending_of}
use Rattle.odb_round.specs.Taken.{AreReady, Pending, sessions_in}
use Rattle.odb_sessions.specs.declared.out.Out.{Out}
use Rattle.odb_round.specs.declared.jobs.Planned.{Planned}
use Rattle.odb_round.proofs.Rounds.{GoesOn, goes_on, left_ready}
use Rattle.odb_sessions.proofs.AnySchema.{no_schema}
use Rattle.odb_round.proofs.round.take_all.Goals as goal

abbrev listed_in : List Planned → List ℕ
listed_in rs = sessions_in (map pending_of rs)

pub loop-planned-init : goal.loop-planned-init
loop-planned-init c =
    let b : Book = c.args.sessions.now in
    let rs : List Planned = c.into_iter-planned-iterator.result.rest.items in
    let all : rs ≡ c.args.takings.items = c.into_iter-planned-iterator.ensures.into_iter_gives.0 in
    let none : c.args.outs.items ≡ [] = c.requires.none in
    let empty : vec_len c.args.outs ≡ 0 = c.args.outs.ok.0 ∙ ap length none in
    let long : length c.args.takings.items ≤ vec_capacity c.args.outs = c.requires.room in (
      λ s. subst (λ (qs : List Planned). AreReady s b (map pending_of qs)) (sym all) (c.requires.ready s),
      subst (λ (qs : List Planned). AreOnce (listed_in qs)) (sym all) c.requires.once,
      λ s w same sessions.
          let u : World = record w { sessions = b.sessions } in
          let is : u ≡ w = λ i. record w { sessions = sym sessions i } in (
            λ i. (take_each (served_by s) (listed_in rs) (sym is i)).0,
            (λ i. map printed (take_each (served_by s) (listed_in rs) (sym is i)).1)
                ∙ ap (λ (os : List Out). map sent_in os ++ map printed (take_each (served_by s) (listed_in rs) u).1) (sym none),
          ),
      refl,
      let many : length rs ≡ length c.args.takings.items = ap length all in omega (arith, empty, long, many),
    )

pub take-requires : goal.take-requires
take-requires c = λ s. (subst (λ (qs : List Planned). AreReady s c.loop-planned.sessions (map pending_of qs)) c.in-Some.ensures.steps.0 (c.loop-planned.invariant.0 s)).0

pub push_reserved-requires : goal.push_reserved-requires
push_reserved-requires c =
    let many : length c.loop-planned.planned-iterator.rest.items ≡ suc (length c.next.new.self.rest.items) = ap length c.in-Some.ensures.steps.0 in
    let fits : vec_len c.loop-planned.sent + length c.loop-planned.planned-iterator.rest.items ≤ vec_capacity c.loop-planned.sent = c.loop-planned.invariant.4 in
    omega (arith, many, fits)

pub loop-planned-preserved-in-Some-take : goal.loop-planned-preserved-in-Some-take
loop-planned-preserved-in-Some-take c =
    let b : Book = c.loop-planned.sessions in
    let ns : List ℕ = listed_in c.into_iter-planned-iterator.result.rest.items in
    let r : Planned = c.in-Some.planned in
    let rs : List Planned = c.next.new.self.rest.items in
    let p : Pending = pending_of r in
    let ps : List Pending = map pending_of rs in
    let steps : c.loop-planned.planned-iterator.rest.items ≡ r ∷ rs = c.in-Some.ensures.steps.0 in
    let once : AreOnce (listed_in (r ∷ rs)) = subst (λ (qs : List Planned). AreOnce (listed_in qs)) steps c.loop-planned.invariant.1 in
    let same : revision_in b ≡ revision_in c.args.sessions.now = c.loop-planned.invariant.3 in
    let o : Out = c.in-Some-take.out in
    let grown : c.push_reserved.new.self.items ≡ c.loop-planned.sent.items ++ o ∷ [] = search rules in
    let sent : map sent_in c.push_reserved.new.self.items ≡ map sent_in c.loop-planned.sent.items ++ sent_in o ∷ [] = ap (map sent_in) grown ∙ map-append sent_in c.loop-planned.sent.items (o ∷ []) in
    let is : c.take.result ≡ Some o = c.in-Some-take.is in
    let len : vec_len c.push_reserved.new.self ≡ vec_len c.loop-planned.sent + 1 = search rules in
    let capacity : vec_capacity c.push_reserved.new.self ≡ vec_capacity c.loop-planned.sent = search rules in
    let many : length c.loop-planned.planned-iterator.rest.items ≡ suc (length rs) = ap length steps in
    let fits : vec_len c.loop-planned.sent + length c.loop-planned.planned-iterator.rest.items ≤ vec_capacity c.loop-planned.sent = c.loop-planned.invariant.4 in (
      λ s. left_ready s b c.take.new.sessions p ps once (subst (λ (qs : List Planned). AreReady s b (map pending_of qs)) steps (c.loop-planned.invariant.0 s)) (c.take.ensures.book s),
      once.1,
      λ s w revision sessions.
          subst (λ os. GoesOn s ns w c.take.new.sessions.sessions ps os) (sym sent)
          (goes_on s ns w b c.take.new.sessions p ps (map sent_in c.loop-planned.sent.items) (Some (sent_in o)) (revision ∙ sym same)
          (subst (λ (qs : List Planned). GoesOn s ns w b.sessions (map pending_of qs) (map sent_in c.loop-planned.sent.items)) steps (c.loop-planned.invariant.2 s w revision sessions))
          (c.take.ensures.book s) (ap (option_map sent_in) (sym is) ∙ c.take.ensures.out s)),
      ap (λ (d : Book). revision_in d) (c.take.ensures.book no_schema) ∙ same,
      omega (arith, len, capacity, many, fits),
    )

pub loop-planned-preserved : goal.loop-planned-preserved
loop-planned-preserved c =
    let b : Book = c.loop-planned.sessions in
    let ns : List ℕ = listed_in c.into_iter-planned-iterator.result.rest.items in
    let r : Planned = c.in-Some.planned in
    let rs : List Planned = c.next.new.self.rest.items in
    let p : Pending = pending_of r in
    let ps : List Pending = map pending_of rs in
    let steps : c.loop-planned.planned-iterator.rest.items ≡ r ∷ rs = c.in-Some.ensures.steps.0 in
    let once : AreOnce (listed_in (r ∷ rs)) = subst (λ (qs : List Planned). AreOnce (listed_in qs)) steps c.loop-planned.invariant.1 in
    let same : revision_in b ≡ revision_in c.args.sessions.now = c.loop-planned.invariant.3 in
    let many : length c.loop-planned.planned-iterator.rest.items ≡ suc (length rs) = ap length steps in
    let fits : vec_len c.loop-planned.sent + length c.loop-planned.planned-iterator.rest.items ≤ vec_capacity c.loop-planned.sent = c.loop-planned.invariant.4 in (
      λ s. left_ready s b c.take.new.sessions p ps once (subst (λ (qs : List Planned). AreReady s b (map pending_of qs)) steps (c.loop-planned.invariant.0 s)) (c.take.ensures.book s),
      once.1,
      λ s w revision sessions.
          subst (λ os. GoesOn s ns w c.take.new.sessions.sessions ps os) (append-nil (map sent_in c.loop-planned.sent.items))
          (goes_on s ns w b c.take.new.sessions p ps (map sent_in c.loop-planned.sent.items) None (revision ∙ sym same)
          (subst (λ (qs : List Planned). GoesOn s ns w b.sessions (map pending_of qs) (map sent_in c.loop-planned.sent.items)) steps (c.loop-planned.invariant.2 s w revision sessions))
          (c.take.ensures.book s) (ap (option_map sent_in) (sym c.in_default.is) ∙ c.take.ensures.out s)),
      ap (λ (d : Book). revision_in d) (c.take.ensures.book no_schema) ∙ same,
      omega (arith, many, fits),
    )

pub returns-clause-round : goal.returns-clause-round
returns-clause-round c = λ s w revision sessions.
    let all : c.into_iter-planned-iterator.result.rest.items ≡ c.args.takings.items = c.into_iter-planned-iterator.ensures.into_iter_gives.0 in
    let zero : length c.loop-planned.planned-iterator.rest.items ≡ 0 = search rules in
    let none : c.loop-planned.planned-iterator.rest.items ≡ [] = nil_from_length c.loop-planned.planned-iterator.rest.items zero in
    let end : GoesOn s (listed_in c.into_iter-planned-iterator.result.rest.items) w c.loop-planned.sessions.sessions [] (map sent_in c.loop-planned.sent.items) =
    subst (λ (qs : List Planned). GoesOn s (listed_in c.into_iter-planned-iterator.result.rest.items) w c.loop-planned.sessions.sessions (map pending_of qs) (map sent_in c.loop-planned.sent.items)) none (c.loop-planned.invariant.2 s w revision sessions)
    in (
      ap (λ (qs : List Planned). (take_each (served_by s) (listed_in qs) w).0) (sym all) ∙ end.0,
      ap (λ (qs : List Planned). map printed (take_each (served_by s) (listed_in qs) w).1) (sym all) ∙ end.1 ∙ append-nil (map sent_in c.loop-planned.sent.items),
    )

pub returns-clause-revision : goal.returns-clause-revision
returns-clause-revision c = c.loop-planned.invariant.3
