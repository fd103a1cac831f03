use Rattle.std.proofs.Common.{map, refl, subst, sym, ap, ◌∙◌}
use Rattle.std.specs.Prelude.{flat_map}
use Rattle.odb_service.specs.Run.{round}
use Rattle.odb_service.specs.Server.{Server, serve}
use Rattle.odb_round.proofs.Plans.{once_once}
use Rattle.odb_round.specs.Planned.{AreOnce}
use Rattle.odb_round.specs.Taken.{AreReady, given_by, sessions_in}
use Rattle.odb_sessions.specs.Represented.Out.{sent_in}
use Rattle.odb_core.specs.Represented.Core.{server_of}
use Rattle.odb_core.specs.Represented.Rounds.{IsRoundOf, book_in}
use Rattle.odb_core.proofs.ServerSteps.{placed, rounds}
use Rattle.odb_core.proofs.ValidSteps.{whole_taken}
use Rattle.odb_core.proofs.server.Core.accept.Goals as goal

pub accept_round-requires-clause-once : goal.accept_round-requires-clause-once
accept_round-requires-clause-once c = subst AreOnce (sym c.requires.1.0) (once_once c.requires.0)

pub accept_round-requires-clause-ready : goal.accept_round-requires-clause-ready
accept_round-requires-clause-ready c = λ s. subst (λ (v : Server). AreReady s (book_in v.world) c.args.prepared) (sym c.self.view_is) (c.requires.1.1 s)

pub invariant_of-self : goal.invariant_of-self
invariant_of-self c =
    let i = c.self.inside in
    let v : Server = server_of i.served i.sessions i.waiting i.locks i.moment i.opened in
    let k = c.accept_round.new.sessions in
    let t = c.accept_round.ensures.round i.served v.world refl refl in
    let given : IsRoundOf (sessions_in c.args.prepared) v (server_of i.served k i.waiting i.locks i.moment i.opened) (map sent_in c.accept_round.result.items) =
    (ap (placed v) t.0 ∙ (λ j. server_of i.served (record { db = (sym c.accept_round.ensures.revision j).db; commits = (sym c.accept_round.ensures.revision j).commits; earlier = (sym c.accept_round.ensures.revision j).earlier; sessions = k.sessions }) i.waiting i.locks i.moment i.opened), t.1)
    in
    whole_taken i.served i.sessions i.waiting i.locks i.moment i.opened (sessions_in c.args.prepared) k (map sent_in c.accept_round.result.items) c.accept_round.ensures.revision given c.self.invariant

pub returns-clause-round : goal.returns-clause-round
returns-clause-round c = λ ready is.
    let i = c.self.inside in
    let v : Server = server_of i.served i.sessions i.waiting i.locks i.moment i.opened in
    let k = c.accept_round.new.sessions in
    let u : Server = server_of i.served k i.waiting i.locks i.moment i.opened in
    let t = c.accept_round.ensures.round i.served v.world refl refl in
    let given : IsRoundOf (sessions_in c.args.prepared) v u (map sent_in c.accept_round.result.items) =
    (ap (placed v) t.0 ∙ (λ j. server_of i.served (record { db = (sym c.accept_round.ensures.revision j).db; commits = (sym c.accept_round.ensures.revision j).commits; earlier = (sym c.accept_round.ensures.revision j).earlier; sessions = k.sessions }) i.waiting i.locks i.moment i.opened), t.1)
    in
    ap (serve (round ready)) (sym c.self.view_is)
    ∙ rounds v ready (sessions_in c.args.prepared) u (map sent_in c.accept_round.result.items) is given

pub returns-clause-texts : goal.returns-clause-texts
returns-clause-texts c = c.accept_round.ensures.texts ∙ ap (λ (v : Server). flat_map (given_by (book_in v.world)) c.args.prepared) c.self.view_is
