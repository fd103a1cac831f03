use Rattle.std.proofs.Common.{rules, ◌≡◌, sym, ap, subst, ◌∙◌}
use Rattle.odb_sessions.specs.Composed.{asked_of, first_job}
use Rattle.odb_sessions.specs.FirstTexts.{IsFirstText}
use Rattle.odb_sessions.specs.Marked.{MarkedMonitor}
use Rattle.odb_sessions.specs.Represented.Composed.{bytes_of}
use Rattle.odb_sessions.specs.Represented.Job.{job_in}
use Rattle.odb_sessions.specs.declared.way.Way.TheVariants as way
use Rattle.odb_round.proofs.FirstTexts.{told_first}
use Rattle.odb_round.proofs.job.RoundJob.told_first.Goals as goal

pub returns-in_ok-first-in-First : goal.returns-in_ok-first-in-First
returns-in_ok-first-in-First c = λ db own.
    let then = c.self.inside.chains.now.db in
    let x : MarkedMonitor = c.self.inside.monitor.now in
    let way : c.self.inside.way ≡ way.First = search rules in
    let is : c.args.self.now ≡ first_job then x.notation (asked_of x.tables) = sym c.self.view_is ∙ ap (job_in then x) way in
    subst (IsFirstText db) (sym c.in_ok-first-in-First.ensures) (told_first db then x.notation (asked_of x.tables) c.args.self.now (bytes_of c.args.text.now) is c.requires own)
