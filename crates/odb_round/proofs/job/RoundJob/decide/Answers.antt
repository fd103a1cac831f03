use Rattle.std.proofs.Common.{rules, ◌≡◌, is_some, sym, ap, ◌∙◌}
use Rattle.odb_monitor.specs.Job.{Job}
use Rattle.odb_sessions.specs.Composed.{composition}
use Rattle.odb_sessions.specs.Represented.Job.{job_in}
use Rattle.odb_round.proofs.JobTexts.{composed_sent, text_composed}
use Rattle.odb_round.proofs.job.RoundJob.decide.Goals as goal

pub invariant_of-self : goal.invariant_of-self
invariant_of-self c =
    let own : Job = job_in c.self.inside.chains.now.db c.self.inside.monitor.now c.self.inside.way in
    (c.self.invariant.0, c.self.invariant.1, text_composed c.in_ok-text.text (composition own) (c.in_ok-text.ensures ∙ ap composition (sym c.self.view_is)), c.self.invariant.3)

pub returns-clause-sent : goal.returns-clause-sent
returns-clause-sent c =
    let is : c.is_some-is_sent.result ≡ is_some c.in_ok-text.text = search rules in
    is ∙ composed_sent c.in_ok-text.text c.args.self.now c.in_ok-text.ensures
