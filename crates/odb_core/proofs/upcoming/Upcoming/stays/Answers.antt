use Rattle.std.proofs.Common.{rules, ◌≡◌, true, false, List, Some, map, subst}
use Rattle.odb_schema.specs.Schema.{table_place}
use Rattle.odb_sessions.specs.Committed.{Ending, all_ended}
use Rattle.odb_sessions.specs.Represented.Ended.{ending_of}
use Rattle.odb_core.specs.Marked.{AreSame, is_marked}
use Rattle.odb_core.specs.Represented.Upcoming.{Upcoming}
use Rattle.odb_core.specs.Stuck.{IsSameAt}
use Rattle.odb_core.proofs.MarkedTables.{same_named}
use Rattle.odb_core.proofs.Upcomings.{is_put}
use Rattle.odb_core.proofs.upcoming.Upcoming.stays.Goals as goal

pub returns-in-Some : goal.returns-in-Some
returns-in-Some c = λ is.
    let i = c.self.inside in
    let s = i.setting.schema.now in
    let es : List Ending = map ending_of i.ended.items in
    let whole : i.is_spoilt ≡ false = search rules in
    let at : table_place s c.args.name.now ≡ Some c.in-Some.table = search rules in
    let marked : is_marked i.marks.items c.in-Some.table ≡ true = search rules in
    let same : AreSame i.marks.items i.sessions.now.db (all_ended s i.sessions.now es).db =
    subst (AreSame i.marks.items i.sessions.now.db) (is_put s i.sessions.now i.is_spoilt i.pending i.commits es i.marks.items i.waiting c.self.invariant whole) (c.self.invariant.marked whole)
    in
    subst (λ (u : Upcoming). IsSameAt u.next.schema c.args.name.now u.base.world.db u.next.world.db) c.self.view_is
    (same_named s c.args.name.now c.in-Some.table i.marks.items i.sessions.now.db (all_ended s i.sessions.now es).db at marked same)
