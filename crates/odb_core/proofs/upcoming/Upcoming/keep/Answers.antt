use Rattle.std.proofs.Common.{◌≡◌, ◌++◌, ◌∷◌, [], map, sym, subst}
use Rattle.odb_service.proofs.Results.{either_way}
use Rattle.odb_service.specs.World.{Waiting}
use Rattle.odb_sessions.specs.Represented.Ended.{ending_of}
use Rattle.odb_tables.specs.Database.{Db}
use Rattle.odb_core.specs.Represented.Upcoming.{Upcoming}
use Rattle.odb_core.specs.Stuck.{AreStuck, IsStuckIf}
use Rattle.odb_core.proofs.HeldTransactions.{all_append}
use Rattle.odb_core.proofs.Upcomings.{with_others}
use Rattle.odb_core.proofs.upcoming.Upcoming.keep.Goals as goal

pub invariant_of-self : goal.invariant_of-self
invariant_of-self c =
    let i = c.self.inside in
    let s = i.setting.schema.now in
    let db : Db = i.sessions.now.db in
    let p : Waiting = c.args.waiting in
    let one : IsStuckIf s db p = subst (λ (u : Upcoming). IsStuckIf u.next.schema u.base.world.db p) (sym c.self.view_is) c.requires in
    let stuck : AreStuck s db c.push.new.self =
    either_way (c.push.new.self ≡ i.waiting ++ p ∷ []) (c.push.new.self ≡ i.waiting) (AreStuck s db c.push.new.self) c.push.result c.push.ensures.ok c.push.ensures.err
    (λ e. subst (AreStuck s db) (sym e) (all_append (IsStuckIf s db) i.waiting (p ∷ []) c.self.invariant.stuck (one, tt)))
    (λ e. subst (AreStuck s db) (sym e) c.self.invariant.stuck)
    in
    with_others s i.sessions.now i.is_spoilt i.pending i.commits (map ending_of i.ended.items) i.marks.items i.waiting c.self.invariant c.push.new.self stuck
