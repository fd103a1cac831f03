use Rattle.std.proofs.Common.{[], ◌∷◌, refl, subst, sym, ap, ◌∙◌}
use Rattle.odb_atoms.specs.FinMap.{get}
use Rattle.odb_round.specs.Taken.{is_finished}
use Rattle.odb_round.proofs.Finished.{given_or_not, given_weaker, not_given_weaker}
use Rattle.odb_service.specs.Run.{round}
use Rattle.odb_service.specs.Server.{Server, serve}
use Rattle.odb_sessions.specs.Represented.Out.{sent_in}
use Rattle.odb_core.specs.Represented.Core.{server_of}
use Rattle.odb_core.specs.Represented.Rounds.{IsRoundOf}
use Rattle.odb_core.proofs.ServerSteps.{placed, rounds}
use Rattle.odb_core.proofs.ValidSteps.{Whole, whole_taken}
use Rattle.odb_core.proofs.server.Core.take_finished.Goals as goal

pub invariant_of-self : goal.invariant_of-self
invariant_of-self c =
    let i = c.self.inside in
    let v : Server = server_of i.served i.sessions i.waiting i.locks i.moment i.opened in
    let k = c.take_finished.new.sessions in
    let listed = c.args.session ∷ [] in
    given_or_not _ _ c.take_finished.result c.take_finished.ensures.round c.take_finished.ensures.none
    (λ out h.
    let t = h i.served v.world refl refl in
    let given : IsRoundOf listed v (server_of i.served k i.waiting i.locks i.moment i.opened) (sent_in out ∷ []) =
    (ap (placed v) t.0 ∙ (λ j. server_of i.served (record { db = (sym c.take_finished.ensures.revision j).db; commits = (sym c.take_finished.ensures.revision j).commits; earlier = (sym c.take_finished.ensures.revision j).earlier; sessions = k.sessions }) i.waiting i.locks i.moment i.opened), t.1)
    in
    whole_taken i.served i.sessions i.waiting i.locks i.moment i.opened listed k (sent_in out ∷ []) c.take_finished.ensures.revision given c.self.invariant)
    (λ e. subst (Whole i.served i.sessions i.waiting i.locks i.moment i.opened) (sym e) c.self.invariant)

pub returns-clause-round : goal.returns-clause-round
returns-clause-round c =
    let i = c.self.inside in
    let v : Server = server_of i.served i.sessions i.waiting i.locks i.moment i.opened in
    let k = c.take_finished.new.sessions in
    let u : Server = server_of i.served k i.waiting i.locks i.moment i.opened in
    let listed = c.args.session ∷ [] in
    given_weaker _ _ c.take_finished.result c.take_finished.ensures.round (λ out h.
    let t = h i.served v.world refl refl in
    let given : IsRoundOf listed v u (sent_in out ∷ []) =
    (ap (placed v) t.0 ∙ (λ j. server_of i.served (record { db = (sym c.take_finished.ensures.revision j).db; commits = (sym c.take_finished.ensures.revision j).commits; earlier = (sym c.take_finished.ensures.revision j).earlier; sessions = k.sessions }) i.waiting i.locks i.moment i.opened), t.1)
    in
    ap (serve (round listed)) (sym c.self.view_is) ∙ rounds v listed listed u (sent_in out ∷ []) refl given)

pub returns-clause-finished : goal.returns-clause-finished
returns-clause-finished c = c.take_finished.ensures.finished ∙ ap (λ (v : Server). is_finished (get v.world.sessions c.args.session)) c.self.view_is

pub returns-clause-none : goal.returns-clause-none
returns-clause-none c =
    let i = c.self.inside in
    not_given_weaker _ _ c.take_finished.result c.take_finished.ensures.none (λ e. (λ j. server_of i.served (e j) i.waiting i.locks i.moment i.opened) ∙ c.self.view_is)
