use Rattle.std.proofs.Common.{rules, ◌≡◌, []}
use Rattle.odb_sessions.specs.Composed.{composition}
use Rattle.odb_sessions.specs.Represented.Job.{job_in}
use Rattle.odb_sessions.specs.declared.way.Way.TheVariants as way
use Rattle.odb_round.proofs.JobTexts.{text_shared}
use Rattle.odb_round.proofs.job.RoundJob.first.Goals as goal

pub invariant_of-result : goal.invariant_of-result
invariant_of-result c =
    let none : c.new.result.items ≡ [] = search rules in
    (c.requires.live, none, text_shared c.in_ok-text.text c.args.text (composition (job_in c.args.chains.now.db c.args.monitor.now way.First)) c.in_ok-text.ensures c.requires.text, tt)
