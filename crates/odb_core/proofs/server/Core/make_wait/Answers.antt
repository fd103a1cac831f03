use Rattle.std.proofs.Common.{◌≡◌, ◌++◌, ◌∷◌, [], ℕ, ◌+◌, Option, None, sym, subst}
use Rattle.odb_locks.specs.Locks.{owns}
use Rattle.odb_service.proofs.Results.{either_way}
use Rattle.odb_service.specs.Server.{Server}
use Rattle.odb_service.specs.World.{Waiting}
use Rattle.odb_tables.specs.Database.{Db}
use Rattle.odb_core.specs.Represented.Waiting.{waiting_as}
use Rattle.odb_core.specs.Stuck.{IsStuckIf}
use Rattle.odb_core.proofs.StuckTransactions.{stuck_here}
use Rattle.odb_core.proofs.ValidSteps.{WholeWith, whole_waiting}
use Rattle.odb_core.proofs.server.Core.make_wait.Goals as goal

pub invariant_of-self : goal.invariant_of-self
invariant_of-self c =
    let i = c.self.inside in
    let v : Server = c.args.self.now in
    let s = i.served in
    let db : Db = i.sessions.db in
    let a = c.args.asked in
    let d : Option ℕ = c.args.deadline in
    let here : IsStuckIf v.schema v.world.db (waiting_as a d v.world.commits) =
    λ rests. stuck_here v.schema (waiting_as a None 0) v.world.db (v.world.commits + 1) v.world.now v.world.commits (owns v.world.locks a.session) d rests c.requires
    in
    let there : IsStuckIf s db (waiting_as a d i.sessions.commits) = subst (λ (u : Server). IsStuckIf u.schema u.world.db (waiting_as a d u.world.commits)) (sym c.self.view_is) here in
    let q : Waiting = waiting_as a d c.commits.result in
    let one : IsStuckIf s db q = subst (λ n. IsStuckIf s db (waiting_as a d n)) (sym c.commits.ensures) there in
    either_way (c.wait.new.self ≡ i.waiting ++ q ∷ []) (c.wait.new.self ≡ i.waiting) (WholeWith i.served i.sessions i.waiting i.locks i.moment i.opened c.wait.new.self) c.wait.result c.wait.ensures.ok c.wait.ensures.err
    (λ e. subst (WholeWith i.served i.sessions i.waiting i.locks i.moment i.opened) (sym e) (whole_waiting i.served i.sessions i.waiting i.locks i.moment i.opened q c.commits.ensures one c.self.invariant))
    (λ e. subst (WholeWith i.served i.sessions i.waiting i.locks i.moment i.opened) (sym e) c.self.invariant)
