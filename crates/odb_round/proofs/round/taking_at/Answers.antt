use Rattle.std.proofs.Common.{rules, ◌≡◌, Option, Some, None, option_map, sym, ap, subst, ◌∙◌}
use Rattle.odb_atoms.specs.FinMap as finite
use Rattle.odb_service.specs.Server.{served_by}
use Rattle.odb_round.specs.Foreseen.{last_used}
use Rattle.odb_sessions.specs.Marked.{MarkedSession, Sessions, seen}
use Rattle.odb_round.specs.Jobs.{IsByLikeness, IsOfJob}
use Rattle.odb_round.specs.Planned.{plan}
use Rattle.odb_round.specs.Represented.Taking.{ready_by, text_planned}
use Rattle.odb_round.specs.Sending.{Sending}
use Rattle.odb_round.specs.Taken.{IsReadyFor, Text}
use Rattle.odb_round.proofs.Pendings.{made_of}
use Rattle.odb_round.proofs.Places.{keeps_itself, text_comes}
use Rattle.odb_round.proofs.Rounds.{ready_by_plan, texts_due}
use Rattle.odb_sessions.proofs.Ties.{get-seen}
use Rattle.odb_round.proofs.round.taking_at.Goals as goal
use Rattle.odb_round.proofs.Served.{by_likeness}
use Rattle.odb_sessions.specs.Book.{revision_at}

pub returns-in_default-clause-ready : goal.returns-in_default-clause-ready
returns-in_default-clause-ready c = λ s all kept.
    let none : finite.get c.args.sessions.now c.args.session ≡ None = search rules in
    subst (λ (o : Option MarkedSession). IsReadyFor s (revision_at c.args.planner.now.chains c.args.planner.now.recent) (option_map seen o) (ready_by all c.none.result.taking)) (sym none) (c.none.ensures.coming all)

pub returns-in_default-clause-jobs : goal.returns-in_default-clause-jobs
returns-in_default-clause-jobs c = keeps_itself c.args.planner.now.jobs

pub taking_from-requires-clause-live : goal.taking_from-requires-clause-live
taking_from-requires-clause-live c =
    let there : finite.get c.args.sessions.now c.args.session ≡ Some c.in-Some.of.now = search rules in
    c.requires.live c.args.session c.in-Some.of.now there

pub taking_from-requires-clause-of : goal.taking_from-requires-clause-of
taking_from-requires-clause-of c =
    let there : finite.get c.args.sessions.now c.args.session ≡ Some c.in-Some.of.now = search rules in
    c.requires.of c.args.session (seen c.in-Some.of.now) (get-seen c.args.sessions.now c.args.session ∙ ap (option_map seen) there)

pub taking_from-requires-clause-known : goal.taking_from-requires-clause-known
taking_from-requires-clause-known c =
    let there : finite.get c.args.sessions.now c.args.session ≡ Some c.in-Some.of.now = search rules in
    (c.args.session, ap (λ (m : Sessions). finite.get m c.args.session) c.requires.known ∙ there)

pub returns-clause-ready : goal.returns-clause-ready
returns-clause-ready c = λ s all kept.
    let revision = revision_at c.args.planner.now.chains c.args.planner.now.recent in
    let x : MarkedSession = c.in-Some.of.now in
    let there : finite.get c.args.sessions.now c.args.session ≡ Some x = search rules in
    let t = c.in_ok-taking.taking in
    let planned : IsReadyFor s revision (Some (seen x)) (ready_by all t) =
    ready_by_plan s revision (seen x) t.items t.monitors (text_planned all t.coming) (c.in_ok-taking.ensures.items s) (c.in_ok-taking.ensures.monitors s)
    (text_comes all t.coming (last_used t.items (seen x).queue)
    ∙ ap (option_map (λ (y : Sending). y.text)) (c.in_ok-taking.ensures.text s all kept)
    ∙ texts_due s revision (plan (served_by s) revision.db (seen x)).out)
    in
    subst (λ (o : Option MarkedSession). IsReadyFor s revision (option_map seen o) (ready_by all t)) (sym there) planned

pub returns-in_default-clause-made : goal.returns-in_default-clause-made
returns-in_default-clause-made c = λ s all kept.
    let o = option_map seen (finite.get c.args.sessions.now c.args.session) in
    subst (λ (t : Text). IsOfJob s (revision_at c.args.planner.now.chains c.args.planner.now.recent) all o t) (sym (c.none.ensures.coming all)) tt

pub returns-clause-made : goal.returns-clause-made
returns-clause-made c = λ s all kept.
    let revision = revision_at c.args.planner.now.chains c.args.planner.now.recent in
    let x : MarkedSession = c.in-Some.of.now in
    let there : finite.get c.args.sessions.now c.args.session ≡ Some x = search rules in
    let t = c.in_ok-taking.taking in
    let made : IsOfJob s revision all (Some (seen x)) (text_planned all t.coming) = made_of s revision all (seen x) t.coming (last_used t.items (seen x).queue) (c.in_ok-taking.ensures.text s all kept) in
    subst (λ (o : Option MarkedSession). IsOfJob s revision all (option_map seen o) (text_planned all t.coming)) (sym there) made

pub returns-clause-jobs : goal.returns-clause-jobs
returns-clause-jobs c = c.taking_from.ensures.jobs

pub returns-in_default-clause-marks : goal.returns-in_default-clause-marks
returns-in_default-clause-marks c = λ s all ls kept.
    subst (IsByLikeness s (revision_at c.args.planner.now.chains c.args.planner.now.recent) all ls (finite.get c.args.sessions.now c.args.session)) (sym (c.none.ensures.coming all)) tt

pub returns-in_default-clause-likenesses : goal.returns-in_default-clause-likenesses
returns-in_default-clause-likenesses c = keeps_itself c.args.planner.now.likenesses

pub returns-clause-marks : goal.returns-clause-marks
returns-clause-marks c = λ s all ls kept.
    let revision = revision_at c.args.planner.now.chains c.args.planner.now.recent in
    let x : MarkedSession = c.in-Some.of.now in
    let there : finite.get c.args.sessions.now c.args.session ≡ Some x = search rules in
    let t = c.in_ok-taking.taking in
    subst (λ (o : Option MarkedSession). IsByLikeness s revision all ls o (text_planned all t.coming)) (sym there)
    (by_likeness s revision x all c.args.planner.now.likenesses c.taking_from.new.planner.likenesses ls t.coming (c.in_ok-taking.ensures.marks s) kept)

pub returns-clause-likenesses : goal.returns-clause-likenesses
returns-clause-likenesses c = (c.in_ok-taking.ensures.marks c.args.planner.now.basis.schema).0
