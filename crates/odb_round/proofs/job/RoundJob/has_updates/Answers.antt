use Rattle.std.proofs.Common.{rules, ◌≡◌, Some, is_some, ap, ◌∙◌}
use Rattle.std.proofs.lemmas.Result.{IfOk-weaker}
use Rattle.odb_monitor.specs.Job.{Job, updates_of}
use Rattle.odb_sessions.specs.Represented.Job.{job_in}
use Rattle.odb_round.proofs.FirstTexts.{kept_in}
use Rattle.odb_round.proofs.job.RoundJob.has_updates.Goals as goal

pub returns-in-Some : goal.returns-in-Some
returns-in-Some c =
    let own : Job = job_in c.self.inside.chains.now.db c.self.inside.monitor.now c.self.inside.way in
    let there : c.self.inside.lacks ≡ Some c.in-Some.job = search rules in
    let is : updates_of c.in-Some.job ≡ updates_of own = kept_in c.self.inside.lacks c.in-Some.job (λ (j : Job). updates_of j ≡ updates_of own) there c.self.invariant.3 in
    IfOk-weaker c.has_updates.result _ _ (λ has e. e ∙ ap is_some (is ∙ ap updates_of c.self.view_is)) c.has_updates.ensures

pub returns : goal.returns
returns c = IfOk-weaker c.has_updates-2.result _ _ (λ has e. e ∙ ap (λ (j : Job). is_some (updates_of j)) c.in_ok-job.ensures) c.has_updates-2.ensures
