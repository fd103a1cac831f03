use Rattle.std.proofs.Common.{List, Some, sym, subst}
use Rattle.odb_chain.specs.Chains.{Chains}
use Rattle.odb_monitor.specs.Job.{Job}
use Rattle.odb_recent.specs.Recent.{Recent}
use Rattle.odb_sessions.specs.Alike.{Likeness}
use Rattle.odb_sessions.specs.Composed.{owed_job}
use Rattle.odb_sessions.specs.Marked.{MarkedMonitor, marks_in}
use Rattle.odb_round.specs.Jobs.{IsFor, Shared, Wanted, if_sent}
use Rattle.odb_sessions.specs.Represented.Alike.{likeness_in}
use Rattle.odb_round.specs.Represented.Decided.{IsPlaceOf, IsSharedIn}
use Rattle.odb_round.specs.Represented.Served.{IsAtPlace}
use Rattle.odb_sessions.specs.Tied.{AreLive}
use Rattle.odb_round.specs.Known.{Basis, IsKnownAs}
use Rattle.odb_sessions.specs.declared.way.Way.TheVariants as way
use Rattle.odb_round.proofs.Likenesses.{like_job}
use Rattle.odb_round.proofs.SharedPlaces.{shared_known}
use Rattle.odb_round.proofs.wanted.Wanted.share.Goals as goal

pub invariant_of-self : goal.invariant_of-self
invariant_of-self c =
    let k : Chains = c.self.inside.chains.now in
    let r : Recent = c.self.inside.recent.now in
    let g : Basis = c.self.inside.basis in
    let x : MarkedMonitor = c.args.monitor.now in
    let js : List Job = c.self.inside.listed.jobs.items in
    let live : AreLive k (marks_in x) = subst (λ (w : Wanted). AreLive w.chains (marks_in x)) (sym c.self.view_is) c.requires.live in
    let asked : IsKnownAs g.sessions c.args.watch x = subst (λ (w : Wanted). IsKnownAs w.basis.sessions c.args.watch x) (sym c.self.view_is) c.requires.known in
    let known : IsKnownAs g.sessions (Some c.in-Some.watch) x = subst (λ o. IsKnownAs g.sessions o x) c.in-Some.is asked in
    let for : IsFor js (if_sent (owed_job k.db x)) c.args.place = subst (λ (w : Wanted). IsFor w.jobs (if_sent (owed_job w.chains.db x)) c.args.place) (sym c.self.view_is) c.requires.place in
    let place : IsPlaceOf k r.undos js (likeness_in x way.Asked) c.args.place = subst (λ (j : Job). IsFor js (if_sent j) c.args.place) (like_job k r x way.Asked tt live) for in
    let own : IsSharedIn g.sessions c.new.result = subst (IsSharedIn g.sessions) (sym c.new.ensures) (shared_known g.sessions c.in-Some.watch x c.args.place known) in
    let its : IsPlaceOf k r.undos js c.new.result.likeness c.new.result.place = subst (λ (e : Shared). IsPlaceOf k r.undos js e.likeness e.place) (sym c.new.ensures) place in
    let ls : List Likeness = c.self.inside.listed.askings.items in
    let own_place : IsAtPlace ls (likeness_in x way.Asked) c.args.place = subst (λ (w : Wanted). IsAtPlace w.likenesses (likeness_in x way.Asked) c.args.place) (sym c.self.view_is) c.requires.likeness in
    let at : IsAtPlace ls c.new.result.likeness c.new.result.place = subst (λ (e : Shared). IsAtPlace ls e.likeness e.place) (sym c.new.ensures) own_place in (
      c.self.invariant.0,
      c.self.invariant.1,
      (c.self.invariant.2.0, c.add.ensures.shared g.sessions own c.self.invariant.2.1, c.add.ensures.places k r.undos js its c.self.invariant.2.2),
      c.add.ensures.placed ls at c.self.invariant.3,
    )
