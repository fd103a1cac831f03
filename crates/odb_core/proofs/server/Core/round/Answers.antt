use Rattle.std.proofs.Common.{rules, ◌≡◌, map, refl, subst, sym, ap, ◌∙◌}
use Rattle.std.proofs.lemmas.Result.{IfOk-weaker}
use Rattle.odb_round.proofs.Plans.{once_once}
use Rattle.odb_round.specs.OfSchema.{AreSessionsOf}
use Rattle.odb_round.specs.Planned.{AreOnce}
use Rattle.odb_schema.specs.Schema.{Schema}
use Rattle.odb_sessions.specs.Represented.Out.{sent_in}
use Rattle.odb_service.specs.Run.{once, round}
use Rattle.odb_service.specs.Server.{Server, serve}
use Rattle.odb_service.specs.Session.{Revision}
use Rattle.odb_core.specs.Represented.Core.{server_of}
use Rattle.odb_core.specs.Represented.Rounds.{IsRoundOf}
use Rattle.odb_core.proofs.CoreInvariant.{either_if}
use Rattle.odb_core.proofs.ServerSteps.{placed, rounds}
use Rattle.odb_core.proofs.ValidSteps.{Whole, whole_taken}
use Rattle.odb_core.proofs.server.Core.round.Goals as goal

pub give_round-requires-clause-of : goal.give_round-requires-clause-of
give_round-requires-clause-of c = subst (λ (s : Schema). AreSessionsOf s c.self.inside.sessions.sessions) (sym c.schema-schema.ensures) c.self.invariant.1.2

pub give_round-requires-clause-once : goal.give_round-requires-clause-once
give_round-requires-clause-once c =
    let listed : c.as_slice.result.now ≡ once c.args.ready.now = search rules in
    subst AreOnce (sym listed) (once_once c.args.ready.now)

pub invariant_of-self : goal.invariant_of-self
invariant_of-self c =
    let i = c.self.inside in
    let v : Server = server_of i.served i.sessions i.waiting i.locks i.moment i.opened in
    let k = c.give_round.new.sessions in
    either_if _ c.give_round.result c.give_round.ensures.ok c.give_round.ensures.err
    (λ outs h.
    let t = h i.served v.world refl refl in
    let given : IsRoundOf c.as_slice.result.now v (server_of i.served k i.waiting i.locks i.moment i.opened) (map sent_in outs.items) =
    (ap (placed v) t.0 ∙ (λ j. server_of i.served (record { db = (sym c.give_round.ensures.revision j).db; commits = (sym c.give_round.ensures.revision j).commits; earlier = (sym c.give_round.ensures.revision j).earlier; sessions = k.sessions }) i.waiting i.locks i.moment i.opened), t.1)
    in
    whole_taken i.served i.sessions i.waiting i.locks i.moment i.opened c.as_slice.result.now k (map sent_in outs.items) c.give_round.ensures.revision given c.self.invariant)
    (λ e. subst (Whole i.served i.sessions i.waiting i.locks i.moment i.opened) (sym e) c.self.invariant)

pub returns-clause-ok : goal.returns-clause-ok
returns-clause-ok c =
    let i = c.self.inside in
    let v : Server = server_of i.served i.sessions i.waiting i.locks i.moment i.opened in
    let k = c.give_round.new.sessions in
    let u : Server = server_of i.served k i.waiting i.locks i.moment i.opened in
    let listed : c.as_slice.result.now ≡ once c.args.ready.now = search rules in
    IfOk-weaker c.give_round.result _ _ (λ outs h.
    let t = h i.served v.world refl refl in
    let given : IsRoundOf c.as_slice.result.now v u (map sent_in outs.items) =
    (ap (placed v) t.0 ∙ (λ j. server_of i.served (record { db = (sym c.give_round.ensures.revision j).db; commits = (sym c.give_round.ensures.revision j).commits; earlier = (sym c.give_round.ensures.revision j).earlier; sessions = k.sessions }) i.waiting i.locks i.moment i.opened), t.1)
    in
    ap (serve (round c.args.ready.now)) (sym c.self.view_is)
    ∙ rounds v c.args.ready.now c.as_slice.result.now u (map sent_in outs.items) listed given) c.give_round.ensures.ok
