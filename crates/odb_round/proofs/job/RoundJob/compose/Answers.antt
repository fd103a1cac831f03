use Rattle.std.proofs.Common.{rules, ◌≡◌, Some, option_map, ap, ◌∙◌}
use Rattle.std.proofs.lemmas.Result.{IfOk-weaker}
use Rattle.serde_json.specs.Written.{compact_text}
use Rattle.odb_monitor.specs.Job.{Job, updates_of}
use Rattle.odb_sessions.specs.Composed.{composition}
use Rattle.odb_sessions.specs.Represented.Composed.{bytes_of}
use Rattle.odb_sessions.specs.Represented.Job.{job_in}
use Rattle.odb_round.proofs.FirstTexts.{kept_in}
use Rattle.odb_round.proofs.job.RoundJob.compose.Goals as goal

pub returns-in-Some : goal.returns-in-Some
returns-in-Some c =
    let there : c.self.inside.text ≡ Some c.in-Some.text = search rules in
    let kept : Some (bytes_of c.in-Some.text) ≡ composition (job_in c.self.inside.chains.now.db c.self.inside.monitor.now c.self.inside.way) = kept_in c.self.inside.text c.in-Some.text _ there c.self.invariant.2 in
    (λ i. Some (c.in_ok-clone.ensures.cases i).items) ∙ kept ∙ ap composition c.self.view_is

pub returns-in-Some-lacks : goal.returns-in-Some-lacks
returns-in-Some-lacks c =
    let own : Job = job_in c.self.inside.chains.now.db c.self.inside.monitor.now c.self.inside.way in
    let there : c.self.inside.lacks ≡ Some c.in-Some-lacks.job = search rules in
    let is : updates_of c.in-Some-lacks.job ≡ updates_of own = kept_in c.self.inside.lacks c.in-Some-lacks.job (λ (j : Job). updates_of j ≡ updates_of own) there c.self.invariant.3 in
    IfOk-weaker c.compose_over.result _ _ (λ body e. e ∙ ap (option_map compact_text) is ∙ ap composition c.self.view_is) c.compose_over.ensures
