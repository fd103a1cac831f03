use Rattle.std.proofs.Common.{◌≡◌, sym, subst}
use Rattle.odb_chain.specs.Chains.{Chains}
use Rattle.odb_sessions.specs.Composed.{owed_job}
use Rattle.odb_sessions.specs.Marked.{marks_in}
use Rattle.odb_round.specs.Jobs.{IsFor, Keeps, Wanted, if_sent}
use Rattle.odb_sessions.specs.Tied.{AreLive}
use Rattle.odb_round.specs.Known.{Basis, IsKnownAs}
use Rattle.odb_round.proofs.Places.{keeps_itself}
use Rattle.odb_round.specs.Represented.Served.{IsServed}
use Rattle.odb_round.proofs.wanted.Wanted.updates.Goals as goal

pub returns-in-Some-clause-jobs : goal.returns-in-Some-clause-jobs
returns-in-Some-clause-jobs c = keeps_itself c.args.self.now.jobs

pub share-requires-clause-live : goal.share-requires-clause-live
share-requires-clause-live c = subst (λ (k : Chains). AreLive k (marks_in c.args.monitor.now)) (sym c.want.ensures.chains) c.requires.live

pub share-requires-clause-known : goal.share-requires-clause-known
share-requires-clause-known c = subst (λ (g : Basis). IsKnownAs g.sessions c.args.watch c.args.monitor.now) (sym c.want.ensures.basis) c.requires.known

pub share-requires-clause-place : goal.share-requires-clause-place
share-requires-clause-place c = subst (λ (k : Chains). IsFor c.want.new.self.jobs (if_sent (owed_job k.db c.args.monitor.now)) c.in_ok-place.place) (sym c.want.ensures.chains) c.in_ok-place.ensures.place

pub returns-clause-place : goal.returns-clause-place
returns-clause-place c = subst (λ (w : Wanted). IsFor w.jobs (if_sent (owed_job c.args.self.now.chains.db c.args.monitor.now)) c.in_ok-place.place) (sym c.share.ensures) c.in_ok-place.ensures.place

pub returns-clause-jobs : goal.returns-clause-jobs
returns-clause-jobs c = subst (λ (w : Wanted). Keeps c.args.self.now.jobs w.jobs) (sym c.share.ensures) c.want.ensures.jobs

pub share-requires-clause-likeness : goal.share-requires-clause-likeness
share-requires-clause-likeness c = c.in_ok-place.ensures.likeness

pub returns-in-Some-clause-marks : goal.returns-in-Some-clause-marks
returns-in-Some-clause-marks c = c.in-Some.ensures.marks

pub returns-clause-marks : goal.returns-clause-marks
returns-clause-marks c = subst (λ (w : Wanted). IsServed c.args.self.now.likenesses w.likenesses (λ h. h ≡ c.args.monitor.now) c.in_ok-place.place) (sym c.share.ensures) c.in_ok-place.ensures.marks
