use Rattle.std.proofs.Common.{◌≡◌, List, Some, sym, subst}
use Rattle.odb_chain.specs.Chains.{Chains}
use Rattle.odb_monitor.specs.Job.{Job}
use Rattle.odb_recent.specs.Recent.{Recent}
use Rattle.odb_sessions.specs.Alike.{Likeness}
use Rattle.odb_sessions.specs.Composed.{owed_job}
use Rattle.odb_sessions.specs.Marked.{MarkedMonitor, marks_in}
use Rattle.odb_round.specs.Jobs.{IsFor, Wanted, if_sent}
use Rattle.odb_round.specs.Represented.Served.{IsServed}
use Rattle.odb_sessions.specs.Tied.{AreLive}
use Rattle.odb_round.specs.Known.{Basis, IsKnownAs}
use Rattle.odb_sessions.specs.declared.way.Way.TheVariants as way
use Rattle.odb_round.proofs.Likenesses.{like_job}
use Rattle.odb_sessions.proofs.Options.{if_some_weaker}
use Rattle.odb_round.proofs.Places.{keeps_itself}
use Rattle.odb_round.proofs.Served.{served_at}
use Rattle.odb_round.proofs.wanted.Wanted.find_shared.Goals as goal

pub returns-in-Some-clause-place : goal.returns-in-Some-clause-place
returns-in-Some-clause-place c =
    let k : Chains = c.self.inside.chains.now in
    let r : Recent = c.self.inside.recent.now in
    let g : Basis = c.self.inside.basis in
    let x : MarkedMonitor = c.args.monitor.now in
    let js : List Job = c.self.inside.listed.jobs.items in
    let live : AreLive k (marks_in x) = subst (λ (w : Wanted). AreLive w.chains (marks_in x)) (sym c.self.view_is) c.requires.live in
    let asked : IsKnownAs g.sessions c.args.watch x = subst (λ (w : Wanted). IsKnownAs w.basis.sessions c.args.watch x) (sym c.self.view_is) c.requires.known in
    let known : IsKnownAs g.sessions (Some c.in-Some.watch) x = subst (λ o. IsKnownAs g.sessions o x) c.in-Some.is asked in
    if_some_weaker c.find.result _ _
    (λ place found. subst (λ (w : Wanted). IsFor w.jobs (if_sent (owed_job w.chains.db x)) place) c.self.view_is
    (subst (λ (j : Job). IsFor js (if_sent j) place) (sym (like_job k r x way.Asked tt live))
    (found g.sessions k r.undos js c.self.invariant.2.0 c.self.invariant.2.1 known c.self.invariant.2.2)))
    c.find.ensures.job

pub returns-in-Some-clause-marks : goal.returns-in-Some-clause-marks
returns-in-Some-clause-marks c =
    let g : Basis = c.self.inside.basis in
    let x : MarkedMonitor = c.args.monitor.now in
    let ls : List Likeness = c.self.inside.listed.askings.items in
    let asked : IsKnownAs g.sessions c.args.watch x = subst (λ (w : Wanted). IsKnownAs w.basis.sessions c.args.watch x) (sym c.self.view_is) c.requires.known in
    let known : IsKnownAs g.sessions (Some c.in-Some.watch) x = subst (λ o. IsKnownAs g.sessions o x) c.in-Some.is asked in
    if_some_weaker c.find.result _ _
    (λ place found. subst (λ (w : Wanted). IsServed w.likenesses w.likenesses (λ h. h ≡ x) place) c.self.view_is
    (served_at ls ls x way.Asked place (keeps_itself ls) (found g.sessions ls c.self.invariant.2.0 c.self.invariant.2.1 known c.self.invariant.3)))
    c.find.ensures.likeness
