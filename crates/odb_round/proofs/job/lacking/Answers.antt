use Rattle.std.proofs.Common.{rules, ◌≡◌, sym, ap, ◌∙◌}
use Rattle.odb_monitor.specs.Job.{updates_of}
use Rattle.odb_sessions.specs.Represented.Job.{job_in}
use Rattle.odb_sessions.specs.declared.way.Way.{Way}
use Rattle.odb_sessions.specs.declared.way.Way.TheVariants as way
use Rattle.odb_round.proofs.job.lacking.Goals as goal

pub returns-in_ok-job-in-Asked : goal.returns-in_ok-job-in-Asked
returns-in_ok-job-in-Asked c =
    let is : c.args.way ≡ way.Asked = search rules in
    c.in_ok-job-in-Asked.ensures ∙ ap (λ (w : Way). updates_of (job_in c.args.chains.now.db c.args.monitor.now w)) (sym is)
