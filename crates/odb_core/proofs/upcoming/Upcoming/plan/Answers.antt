use Rattle.std.proofs.Common.{rules, ◌≡◌, false, List, map, refl, sym, ap, subst, ◌∙◌}
use Rattle.odb_commit.specs.Sound.{IsSound}
use Rattle.odb_service.specs.Server.{Server}
use Rattle.odb_sessions.specs.Committed.{Ending, all_left}
use Rattle.odb_sessions.specs.Represented.Ended.{ending_of}
use Rattle.odb_tables.specs.Change.{all_changed_by}
use Rattle.odb_tables.specs.Database.{Db}
use Rattle.odb_tables.specs.Installing.{IsChangeOf}
use Rattle.odb_core.specs.Represented.Upcoming.{IsPlanOf, Leads, Upcoming, server_with}
use Rattle.odb_core.proofs.upcoming.Upcoming.plan.Goals as goal

pub returns : goal.returns
returns c =
    let i = c.self.inside in
    let s = i.setting.schema.now in
    let es : List Ending = map ending_of i.ended.items in
    let v : Server = server_with s i.setting.locks.now i.setting.now i.opened i.sessions.now in
    let whole : i.is_spoilt ≡ false = search rules in
    let cs = c.in_ok-change.change in
    let leads : all_changed_by i.sessions.now.db cs ≡ all_left i.sessions.now.db es =
    ap (λ (db : Db). all_changed_by db cs) (sym c.self.invariant.base) ∙ c.in_ok-change.ensures.leads_to ∙ c.self.invariant.pending whole in
    let planned : IsPlanOf v (record { ended = i.ended; change = cs; left = i.waiting; failed = i.failed }) = record {
      each = c.self.invariant.each;
      whole = subst (λ (db : Db). IsChangeOf db cs) c.self.invariant.base c.in_ok-change.ensures.change_of;
      leads_to = leads;
      sound = subst (IsSound s) (sym leads) c.self.invariant.sound;
    } in
    subst (λ (u : Upcoming). Leads u.base (record { ended = i.ended; change = cs; left = i.waiting; failed = i.failed }) u.next) c.self.view_is (planned, refl)
