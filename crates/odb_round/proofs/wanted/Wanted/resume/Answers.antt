use Rattle.std.proofs.Common.{◌≡◌, List, slice_get, take, sym, ap, subst, ◌∙◌}
use Rattle.std.specs.Prelude.{option_map}
use Rattle.std.proofs.lemmas.Option.{none-some, same_Some}
use Rattle.odb_monitor.specs.Job.{Job}
use Rattle.odb_recent.specs.Recent.{Recent}
use Rattle.odb_sessions.specs.Composed.{asked_of, resumed_job}
use Rattle.odb_sessions.specs.Marked.{MarkedMonitor}
use Rattle.odb_round.specs.Jobs.{Wanted, certainly}
use Rattle.odb_sessions.specs.Represented.Job.{job_in}
use Rattle.odb_sessions.specs.declared.way.Way.TheVariants as way
use Rattle.odb_round.proofs.Places.{keeps_itself}
use Rattle.odb_round.specs.Represented.Served.{IsServed}
use Rattle.odb_round.proofs.wanted.Wanted.resume.Goals as goal

pub want-requires-clause-found : goal.want-requires-clause-found
want-requires-clause-found c = (ap (λ (w : Wanted). w.recent) c.self.view_is, c.requires.kept)

pub unreachable-requires : goal.unreachable-requires
unreachable-requires c =
    let js : List Job = c.want.new.self.jobs in
    let job : Job = job_in c.args.self.now.chains.db c.args.monitor.now (way.Since c.self.inside.recent c.args.ago) in
    none-some (certainly job) (sym (ap (option_map (slice_get js)) c.in_default.is) ∙ c.in_ok-place.ensures.place js (keeps_itself js))

pub returns-clause-place : goal.returns-clause-place
returns-clause-place c = λ all kept.
    let x : MarkedMonitor = c.args.monitor.now in
    let db = c.args.self.now.chains.db in
    let job : Job = job_in db x (way.Since c.self.inside.recent c.args.ago) in
    same_Some (slice_get all c.in-Some.place) (certainly job) (sym (ap (option_map (slice_get all)) c.in-Some.is) ∙ c.in_ok-place.ensures.place all kept)
    ∙ ap (λ (r : Recent). certainly (resumed_job (take c.args.ago r.undos) db x.notation (asked_of x.tables))) (ap (λ (w : Wanted). w.recent) c.self.view_is)

pub returns-clause-marks : goal.returns-clause-marks
returns-clause-marks c = subst (IsServed c.args.self.now.likenesses c.want.new.self.likenesses (λ h. h ≡ c.args.monitor.now)) c.in-Some.is c.in_ok-place.ensures.marks
