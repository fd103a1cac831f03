use Rattle.std.proofs.Common.{rules, ◌≡◌, ◌++◌, ◌∷◌, [], not, OnOk, Option, None, refl, sym, ap, subst, ◌∙◌}
use Rattle.std.proofs.lemmas.Result.{on_ok_weaker}
use borrow.Author.Tests.{eq-eqb}
use Rattle.odb_commit.specs.Represented.Outcome.{Answers}
use Rattle.odb_commit.specs.declared.transaction.Outcome.TheVariants as outcome
use Rattle.odb_service.specs.Server.{Server, served_by}
use Rattle.odb_service.specs.World.{Waiting, World, is_untried, untried}
use Rattle.odb_core.specs.Represented.Steps.{by_service, let_wait}
use Rattle.odb_core.specs.Represented.Waiting.{ends, outcome_in, runs, waiting_as}
use Rattle.odb_core.proofs.Attempts.{fails_as, waiting_is, waits_as}
use Rattle.odb_core.proofs.ClosedSessions.{none_pushed}
use Rattle.odb_core.proofs.HandledRequests.{runs_alone, runs_waiting}
use Rattle.odb_service.proofs.Results.{ok_together}
use Rattle.odb_core.proofs.ServerSteps.{framed, placed}
use Rattle.odb_core.proofs.server.Core.transact.Goals as goal

pub make_wait-requires : goal.make_wait-requires
make_wait-requires c =
    let s = c.args.self.now.schema in
    let w : World = c.args.self.now.world in
    let waits : Answers s w.db (outcome.Waiting c.in-Ok-Waiting.deadline) (outcome_in s w c.args.asked) = search rules in
    waiting_is s w.db c.in-Ok-Waiting.deadline (outcome_in s w c.args.asked) waits

pub returns-in-Ok-Waiting-clause-ok : goal.returns-in-Ok-Waiting-clause-ok
returns-in-Ok-Waiting-clause-ok c =
    let s = c.args.self.now.schema in
    let h = served_by s in
    let w : World = c.args.self.now.world in
    let p : Waiting = waiting_as c.args.asked None w.commits in
    let q : Waiting = waiting_as c.args.asked c.in-Ok-Waiting.deadline w.commits in
    let v : Server = let_wait (w.waiting ++ q ∷ []) c.args.self.now in
    let waits : Answers s w.db (outcome.Waiting c.in-Ok-Waiting.deadline) (outcome_in s w c.args.asked) = search rules in
    let none : untried h v.world ≡ None = none_pushed (is_untried w.commits) w.waiting q (c.requires.tried h) (ap not (eq-eqb w.commits w.commits refl)) in
    let parks : OnOk c.make_wait.result (c.make_wait.new.self ≡ v) = c.make_wait.ensures.ok in
    on_ok_weaker c.make_wait.result (λ e. ap (placed c.args.self.now) (runs_waiting h p q w (waits_as s w c.args.asked None w.commits c.in-Ok-Waiting.deadline waits) none) ∙ sym e) parks

pub returns-in-Ok-Failed-clause-ok : goal.returns-in-Ok-Failed-clause-ok
returns-in-Ok-Failed-clause-ok c =
    let s = c.args.self.now.schema in
    let h = served_by s in
    let w : World = c.args.self.now.world in
    let a = c.args.asked in
    let p : Waiting = waiting_as a None w.commits in
    let v : Server = c.reply-ended.new.self in
    let failed : Answers s w.db (outcome.Failed c.in-Ok-Failed.results) (outcome_in s w a) = search rules in
    let ended : OnOk c.reply-ended.result (by_service (ends a c.in-Ok-Failed.results None) c.args.self.now ≡ v) = c.reply-ended.ensures.ok in
    subst (λ (u : Server). OnOk c.add_failed.result (by_service (runs a) c.args.self.now ≡ u)) (sym c.add_failed.ensures.same)
    (ok_together (by_service (runs a) c.args.self.now ≡ v) c.add_failed.result c.reply-ended.result c.add_failed.ensures.ok
    (on_ok_weaker c.reply-ended.result (λ e. ap (placed c.args.self.now) (runs_alone h p w v.world
    (fails_as s w a None w.commits c.in-Ok-Failed.results failed ∙ (λ i. let t : World × Option Waiting = ((e i).world, None) in t))
    (ap (λ (u : Server). untried h u.world) c.reply-ended.ensures.others ∙ c.requires.tried h)) ∙ framed c.args.self.now v _ e) ended))
