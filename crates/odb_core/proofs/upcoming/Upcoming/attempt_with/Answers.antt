use Rattle.std.proofs.Common.{rules, ◌≡◌, false, Option, None, ap, ◌∙◌}
use Rattle.odb_commit.specs.Represented.Outcome.{Answers}
use Rattle.odb_commit.specs.declared.transaction.Outcome.TheVariants as outcome
use Rattle.odb_core.specs.Represented.Waiting.{outcome_in}
use Rattle.odb_service.specs.Server.{Server}
use Rattle.odb_service.specs.World.{Waiting, World}
use Rattle.odb_core.proofs.Attempts.{done_as, fails_as, has_rows}
use Rattle.odb_core.proofs.ServerSteps.{placed}
use Rattle.odb_core.proofs.upcoming.Upcoming.attempt_with.Goals as goal

pub returns-in_ok-reply-in-Done-clause-tried : goal.returns-in_ok-reply-in-Done-clause-tried
returns-in_ok-reply-in-Done-clause-tried c = λ deadline n.
    let w = c.args.self.now.next.world in
    let done : Answers c.args.self.now.next.schema w.db (outcome.Done c.in-Done.results c.in-Done.change) (outcome_in c.args.self.now.next.schema w c.args.asked.now) = search rules in
    let none : has_rows c.args.self.now.next.schema w c.args.asked.now deadline n c.in-Done.change ≡ false = search rules in
    ap (λ (t : World × Option Waiting). let r : Server × Option Waiting = (placed c.args.self.now.next t.0, t.1) in r) (done_as c.args.self.now.next.schema w c.args.asked.now deadline n c.in-Done.results c.in-Done.change false none done)
    ∙ (λ i. let r : Server × Option Waiting = (c.in_ok-reply-in-Done.ensures.ok i, None) in r)

pub returns-in_ok-reply-in-Failed-clause-tried : goal.returns-in_ok-reply-in-Failed-clause-tried
returns-in_ok-reply-in-Failed-clause-tried c = λ deadline n.
    let w = c.args.self.now.next.world in
    let failed : Answers c.args.self.now.next.schema w.db (outcome.Failed c.in-Failed.results) (outcome_in c.args.self.now.next.schema w c.args.asked.now) = search rules in
    ap (λ (t : World × Option Waiting). let r : Server × Option Waiting = (placed c.args.self.now.next t.0, t.1) in r) (fails_as c.args.self.now.next.schema w c.args.asked.now deadline n c.in-Failed.results failed)
    ∙ (λ i. let r : Server × Option Waiting = (c.in_ok-reply-in-Failed.ensures.ok i, None) in r)
