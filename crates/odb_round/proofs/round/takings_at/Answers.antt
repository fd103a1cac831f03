use Rattle.std.proofs.Common.{rules, ◌≡◌, ℕ, ◌<◌, ◌≤◌, ◌+◌, ◌++◌, ◌∷◌, [], List, Option, get_or, length, map, option_map, take_all, refl, sym, ap, subst, ◌∙◌, arith}
use Rattle.std.specs.Prelude.{vec_capacity, vec_len}
use Rattle.std.proofs.lemmas.List.{map-append, take_more}
use Rattle.odb_atoms.specs.FinMap.{get}
use Rattle.odb_chain.specs.Chains.{Chains}
use Rattle.odb_monitor.specs.Job.{Job}
use Rattle.odb_recent.specs.Recent.{Recent}
use Rattle.odb_schema.specs.Schema.{Schema}
use Rattle.odb_service.specs.Session.{Revision, Session}
use Rattle.odb_sessions.specs.Book.{Book, book_with, revision_at}
use Rattle.odb_sessions.specs.Marked.{Sessions, all_seen, seen}
use Rattle.odb_round.specs.Jobs.{AreByLikenesses, AreMadeOf, IsByLikeness, IsOfJob, Keeps}
use Rattle.odb_round.specs.OfSchema.{AreSessionsOf}
use Rattle.odb_round.specs.Represented.Taking.{pending_by, ready_by, text_planned}
use Rattle.odb_round.specs.Taken.{AreReady, IsReadyFor}
use Rattle.odb_sessions.specs.Tied.{AreAllLive}
use Rattle.odb_round.specs.declared.jobs.Planned.{Planned}
use Rattle.odb_round.proofs.Pendings.{made-append}
use Rattle.odb_round.proofs.Places.{keeps_on}
use Rattle.odb_round.proofs.Rounds.{ready-append}
use Rattle.odb_round.proofs.Served.{likenesses-append}
use Rattle.odb_sessions.proofs.Ties.{get-seen}
use Rattle.odb_round.proofs.round.takings_at.Goals as goal
use Rattle.odb_round.specs.Known.{Basis}

abbrev book : Chains → Recent → Sessions → Book
book k r m = book_with k.db r (all_seen m)

pub loop-session-init : goal.loop-session-init
loop-session-init c =
    let none : c.in_ok-takings.takings.items ≡ [] = search rules in
    let fits : length c.args.listed.now ≤ vec_capacity c.in_ok-takings.takings = search rules in (
      ap (map (λ (p : Planned). p.session)) none,
      λ s all kept. subst (λ (ps : List Planned). AreReady s (book c.args.planner.now.chains c.args.planner.now.recent c.args.sessions.now) (map (pending_by all) ps)) (sym none) tt,
      search rules,
      fits,
      refl,
      λ s all kept. subst (λ (ps : List Planned). AreMadeOf s (book c.args.planner.now.chains c.args.planner.now.recent c.args.sessions.now) all (map (pending_by all) ps)) (sym none) tt,
      refl,
      refl,
      λ s all ls kept. subst (λ (ps : List Planned). AreByLikenesses s (revision_at c.args.planner.now.chains c.args.planner.now.recent) c.args.sessions.now all ls (map (pending_by all) ps)) (sym none) tt,
    )

pub push_reserved-requires : goal.push_reserved-requires
push_reserved-requires c =
    let len : vec_len c.loop-session.takings ≡ c.loop-session.session-index = c.loop-session.invariant.2 in
    let fits : length c.args.listed.now ≤ vec_capacity c.loop-session.takings = c.loop-session.invariant.3 in
    let inside : c.loop-session.session-index < length c.args.listed.now = search rules in
    omega (arith, len, fits, inside)

pub loop-session-preserved : goal.loop-session-preserved
loop-session-preserved c =
    let ns : List ℕ = c.args.listed.now in
    let i = c.loop-session.session-index in
    let p : Planned = c.in_ok-taking_at.field-0 in
    let ps : List Planned = c.loop-session.takings.items in
    let k : Chains = c.args.planner.now.chains in
    let r : Recent = c.args.planner.now.recent in
    let m : Sessions = c.args.sessions.now in
    let now : List Job = c.taking_at.new.planner.jobs in
    let same : c.loop-session.planner.chains ≡ k = c.loop-session.invariant.4 in
    let commits : c.loop-session.planner.recent ≡ r = c.loop-session.invariant.6 in
    let revision : revision_at c.loop-session.planner.chains c.loop-session.planner.recent ≡ revision_at k r = (λ j. revision_at (same j) (commits j)) in
    let grown : c.push_reserved.new.self.items ≡ ps ++ p ∷ [] = search rules in
    let inside : i < length ns = search rules in
    let n : ℕ = get_or ns i 0 in
    let named : p.session ≡ n = search rules in
    let ready : (s : Schema) (all : List Job) → Keeps now all → IsReadyFor s (revision_at k r) (get (all_seen m) n) (ready_by all p.taking) =
    λ s all kept. subst (λ (o : Option Session). IsReadyFor s (revision_at k r) o (ready_by all p.taking)) (sym (get-seen m n)) (subst (λ (v : Revision). IsReadyFor s v (option_map seen (get m n)) (ready_by all p.taking)) revision (c.in_ok-taking_at.ensures.ready s all kept))
    in
    let made : (s : Schema) (all : List Job) → Keeps now all → IsOfJob s (revision_at k r) all (get (all_seen m) n) (text_planned all p.taking.coming) =
    λ s all kept. subst (λ (o : Option Session). IsOfJob s (revision_at k r) all o (text_planned all p.taking.coming)) (sym (get-seen m n)) (subst (λ (v : Revision). IsOfJob s v all (option_map seen (get m n)) (text_planned all p.taking.coming)) revision (c.in_ok-taking_at.ensures.made s all kept))
    in
    let len : vec_len c.push_reserved.new.self ≡ vec_len c.loop-session.takings + 1 = search rules in
    let before : vec_len c.loop-session.takings ≡ i = c.loop-session.invariant.2 in
    let capacity : vec_capacity c.push_reserved.new.self ≡ vec_capacity c.loop-session.takings = search rules in
    let fits : length ns ≤ vec_capacity c.loop-session.takings = c.loop-session.invariant.3 in (
      ap (map (λ (q : Planned). q.session)) grown ∙ map-append (λ (q : Planned). q.session) ps (p ∷ [])
          ∙ (λ j. c.loop-session.invariant.0 j ++ named j ∷ []) ∙ sym (take_more ns i 0 inside),
      λ s all kept. subst (AreReady s (book k r m)) (sym (ap (map (pending_by all)) grown ∙ map-append (pending_by all) ps (p ∷ [])))
          (ready-append s (book k r m) (map (pending_by all) ps) (pending_by all p)
          (c.loop-session.invariant.1 s all (keeps_on c.loop-session.planner.jobs now all c.taking_at.ensures.jobs kept))
          (subst (λ (n : ℕ). IsReadyFor s (revision_at k r) (get (all_seen m) n) (ready_by all p.taking)) (sym named) (ready s all kept))),
      omega (arith, len, before),
      omega (arith, capacity, fits),
      c.taking_at.ensures.chains ∙ same,
      λ s all kept. subst (AreMadeOf s (book k r m) all) (sym (ap (map (pending_by all)) grown ∙ map-append (pending_by all) ps (p ∷ [])))
          (made-append s (book k r m) all (map (pending_by all) ps) (pending_by all p)
          (c.loop-session.invariant.5 s all (keeps_on c.loop-session.planner.jobs now all c.taking_at.ensures.jobs kept))
          (subst (λ (n : ℕ). IsOfJob s (revision_at k r) all (get (all_seen m) n) (text_planned all p.taking.coming)) (sym named) (made s all kept))),
      c.taking_at.ensures.recent ∙ commits,
      c.taking_at.ensures.basis ∙ c.loop-session.invariant.7,
      λ s all ls kept. subst (AreByLikenesses s (revision_at k r) m all ls) (sym (ap (map (pending_by all)) grown ∙ map-append (pending_by all) ps (p ∷ [])))
          (likenesses-append s (revision_at k r) m all ls (map (pending_by all) ps) (pending_by all p)
          (c.loop-session.invariant.8 s all ls (keeps_on c.loop-session.planner.likenesses c.taking_at.new.planner.likenesses ls c.in_ok-taking_at.ensures.likenesses kept))
          (subst (λ (v : Revision). IsByLikeness s v all ls (get m p.session) (text_planned all p.taking.coming)) revision
          (subst (λ (q : ℕ). IsByLikeness s (revision_at c.loop-session.planner.chains c.loop-session.planner.recent) all ls (get m q) (text_planned all p.taking.coming)) (sym named) (c.in_ok-taking_at.ensures.marks s all ls kept)))),
    )

pub returns-clause-sessions : goal.returns-clause-sessions
returns-clause-sessions c =
    let past : length c.args.listed.now ≤ c.loop-session.session-index = search rules in
    c.loop-session.invariant.0 ∙ take_all c.loop-session.session-index c.args.listed.now past

pub taking_at-requires-clause-live : goal.taking_at-requires-clause-live
taking_at-requires-clause-live c = subst (λ (k : Chains). AreAllLive k c.args.sessions.now) (sym c.loop-session.invariant.4) c.requires.live

pub taking_at-requires-clause-of : goal.taking_at-requires-clause-of
taking_at-requires-clause-of c = subst (λ (g : Basis). AreSessionsOf g.schema (all_seen c.args.sessions.now)) (sym c.loop-session.invariant.7) c.requires.of

pub taking_at-requires-clause-known : goal.taking_at-requires-clause-known
taking_at-requires-clause-known c = ap (λ (g : Basis). g.sessions) c.loop-session.invariant.7 ∙ c.requires.known

pub returns-clause-ready : goal.returns-clause-ready
returns-clause-ready c = c.loop-session.invariant.1

pub returns-clause-made : goal.returns-clause-made
returns-clause-made c = c.loop-session.invariant.5

pub returns-clause-chains : goal.returns-clause-chains
returns-clause-chains c = c.loop-session.invariant.4

pub returns-clause-recent : goal.returns-clause-recent
returns-clause-recent c = c.loop-session.invariant.6

pub returns-clause-basis : goal.returns-clause-basis
returns-clause-basis c = c.loop-session.invariant.7

pub returns-clause-marks : goal.returns-clause-marks
returns-clause-marks c = c.loop-session.invariant.8
