use Rattle.std.proofs.Common.{◌≡◌, List, slice_get, sym, ap, subst, ◌∙◌}
use Rattle.std.specs.Prelude.{option_map}
use Rattle.std.proofs.lemmas.Option.{none-some, same_Some}
use Rattle.odb_monitor.specs.Job.{Job}
use Rattle.odb_round.specs.Jobs.{certainly}
use Rattle.odb_sessions.specs.Represented.Job.{job_in}
use Rattle.odb_sessions.specs.declared.way.Way.TheVariants as way
use Rattle.odb_round.proofs.Places.{keeps_itself}
use Rattle.odb_round.specs.Represented.Served.{IsServed}
use Rattle.odb_round.proofs.wanted.Wanted.first_reply.Goals as goal

pub unreachable-requires : goal.unreachable-requires
unreachable-requires c =
    let js : List Job = c.want.new.self.jobs in
    none-some (certainly (job_in c.args.self.now.chains.db c.args.monitor.now way.First)) (sym (ap (option_map (slice_get js)) c.in_default.is) ∙ c.in_ok-place.ensures.place js (keeps_itself js))

pub returns-clause-place : goal.returns-clause-place
returns-clause-place c = λ all kept. same_Some (slice_get all c.in-Some.place) (certainly (job_in c.args.self.now.chains.db c.args.monitor.now way.First)) (sym (ap (option_map (slice_get all)) c.in-Some.is) ∙ c.in_ok-place.ensures.place all kept)

pub returns-clause-marks : goal.returns-clause-marks
returns-clause-marks c = subst (IsServed c.args.self.now.likenesses c.want.new.self.likenesses (λ h. h ≡ c.args.monitor.now)) c.in-Some.is c.in_ok-place.ensures.marks
