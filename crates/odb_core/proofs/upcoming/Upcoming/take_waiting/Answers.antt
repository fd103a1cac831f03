use Rattle.std.proofs.Common.{map, sym, subst}
use Rattle.odb_sessions.specs.Represented.Ended.{ending_of}
use Rattle.odb_core.specs.Represented.Upcoming.{Upcoming}
use Rattle.odb_core.specs.Stuck.{AreStuck}
use Rattle.odb_core.proofs.Upcomings.{with_others}
use Rattle.odb_core.proofs.upcoming.Upcoming.take_waiting.Goals as goal

pub invariant_of-self : goal.invariant_of-self
invariant_of-self c =
    let i = c.self.inside in
    let s = i.setting.schema.now in
    with_others s i.sessions.now i.is_spoilt i.pending i.commits (map ending_of i.ended.items) i.marks.items i.waiting c.self.invariant c.take_all.new.self
    (subst (AreStuck s i.sessions.now.db) (sym c.take_all.ensures.none) tt)

pub returns-clause-stuck : goal.returns-clause-stuck
returns-clause-stuck c =
    let i = c.self.inside in
    subst (λ (u : Upcoming). AreStuck u.next.schema u.base.world.db c.take_all.result.items) c.self.view_is
    (subst (AreStuck i.setting.schema.now i.sessions.now.db) (sym c.take_all.ensures.all) c.self.invariant.stuck)
