use Rattle.std.proofs.Common.{ap, subst, ◌∙◌}
use Rattle.std.specs.List.{All}
use Rattle.odb_sessions.specs.Book.{revision_at}
use Rattle.odb_sessions.specs.FirstTexts.{IsOfNow}
use Rattle.odb_round.specs.Foreseen.{Foreseen}
use Rattle.odb_round.specs.Jobs.{AreEachOnce}
use Rattle.odb_round.proofs.foreseen.Planner.into_jobs.Goals as goal

pub returns-clause-jobs : goal.returns-clause-jobs
returns-clause-jobs c = c.into_jobs.ensures.jobs ∙ ap (λ (f : Foreseen). f.jobs) c.self.view_is

pub returns-clause-now : goal.returns-clause-now
returns-clause-now c = subst (λ (f : Foreseen). All (IsOfNow f.chains.db) c.into_jobs.result.jobs.items) c.self.view_is c.into_jobs.ensures.now

pub returns-clause-once : goal.returns-clause-once
returns-clause-once c = subst (λ (f : Foreseen). AreEachOnce f.chains (revision_at f.chains f.recent) c.into_jobs.result.jobs.items c.into_jobs.result.askings.items) c.self.view_is c.into_jobs.ensures.once

pub returns-clause-likenesses : goal.returns-clause-likenesses
returns-clause-likenesses c = c.into_jobs.ensures.likenesses ∙ ap (λ (f : Foreseen). f.likenesses) c.self.view_is
