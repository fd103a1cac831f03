use Rattle.std.proofs.Common.{◌≡◌, map, sym, ap, subst, ◌∙◌}
use Rattle.odb_commit.specs.Sound.{IsSound}
use Rattle.odb_core.specs.Represented.Core.{IsValid, IsWhole, server_of}
use Rattle.odb_core.specs.Stuck.{AreStuck, IsKept}
use Rattle.odb_service.specs.Server.{Server}
use Rattle.odb_service.specs.World.{World}
use Rattle.odb_sessions.specs.Book.{Book}
use Rattle.odb_sessions.specs.Committed.{AreChangesFrom, all_ended, all_left}
use Rattle.odb_sessions.specs.Represented.Ended.{ending_of}
use Rattle.odb_tables.specs.Change.{all_changed_by}
use Rattle.odb_tables.specs.Database.{Db}
use Rattle.odb_tables.specs.Installing.{IsChangeOf}
use Rattle.odb_core.specs.Represented.Rounds.{book_in}
use Rattle.odb_core.specs.Represented.Upcoming.{after_ended}
use Rattle.odb_core.proofs.Upcomings.{ended_leave}
use Rattle.odb_core.proofs.server.Core.carry_out_plan.Goals as goal

pub end_all-requires-clause-each : goal.end_all-requires-clause-each
end_all-requires-clause-each c = subst (λ (u : Server). AreChangesFrom u.world.db (map ending_of c.args.plan.ended.items)) (sym c.self.view_is) c.requires.plan.each

pub end_all-requires-clause-whole : goal.end_all-requires-clause-whole
end_all-requires-clause-whole c = subst (λ (u : Server). IsChangeOf u.world.db c.args.plan.change) (sym c.self.view_is) c.requires.plan.whole

pub end_all-requires-clause-leads_to : goal.end_all-requires-clause-leads_to
end_all-requires-clause-leads_to c = subst (λ (u : Server). all_changed_by u.world.db c.args.plan.change ≡ all_left u.world.db (map ending_of c.args.plan.ended.items)) (sym c.self.view_is) c.requires.plan.leads_to

pub returns-clause-ok : goal.returns-clause-ok
returns-clause-ok c =
    let s = c.args.self.now.schema in
    let w : World = c.args.self.now.world in
    let p = c.args.plan in
    let old : Book = c.self.inside.sessions in
    let made : c.end_all.new.self ≡ all_ended s old (map ending_of p.ended.items) = c.in_ok-end_all.ensures.ok s in
    let told : c.end_all.new.self ≡ all_ended s (book_in w) (map ending_of p.ended.items) =
    made ∙ ap (λ (u : Server). all_ended s (book_in u.world) (map ending_of p.ended.items)) c.self.view_is
    in
    λ i. record {
      schema = (c.self.view_is i).schema;
      world = record { db = (told i).db; commits = (told i).commits; earlier = (told i).earlier; now = (c.self.view_is i).world.now; waiting = p.left; locks = (c.self.view_is i).world.locks; sessions = (told i).sessions };
      opened = (c.self.view_is i).opened;
    }

pub invariant_of-self : goal.invariant_of-self
invariant_of-self c = subst (λ (b : Book). IsWhole c.self.inside.served b c.self.inside.waiting c.self.inside.locks c.self.inside.moment c.self.inside.opened) (sym c.in_err-end_all.ensures.err) c.self.invariant

pub invariant_of-self-2 : goal.invariant_of-self-2
invariant_of-self-2 c =
    let v : Server = c.args.self.now in
    let p = c.args.plan in
    let i = c.self.inside in
    let es = map ending_of p.ended.items in
    let before : AreStuck v.schema v.world.db v.world.waiting = subst (λ (u : Server). AreStuck u.schema u.world.db u.world.waiting) c.self.view_is c.self.invariant.0.1 in
    let kept : IsKept v.schema (all_left v.world.db es) p.left =
    (subst (IsSound v.schema) c.requires.plan.leads_to c.requires.plan.sound, subst (λ (db : Db). AreStuck v.schema db p.left) c.requires.plan.leads_to (c.requires.stuck before)) in
    let here : IsKept i.served (all_left i.sessions.db es) p.left = subst (λ (u : Server). IsKept u.schema (all_left u.world.db es) p.left) (sym c.self.view_is) kept in
    let all : IsKept i.served (all_ended v.schema i.sessions es).db p.left = subst (λ (db : Db). IsKept i.served db p.left) (sym (ended_leave v.schema i.sessions es)) here in
    let now : IsKept i.served c.end_all.new.self.db p.left = subst (λ (b : Book). IsKept i.served b.db p.left) (sym (c.in_ok-end_all.ensures.ok v.schema)) all in
    let told : c.end_all.new.self ≡ all_ended v.schema (book_in v.world) es =
    c.in_ok-end_all.ensures.ok v.schema ∙ ap (λ (u : Server). all_ended v.schema (book_in u.world) es) c.self.view_is
    in
    let is : server_of i.served c.end_all.new.self p.left i.locks i.moment i.opened ≡ after_ended v es p.left =
    λ j. server_of (c.self.view_is j).schema (told j) p.left (c.self.view_is j).world.locks (c.self.view_is j).world.now (c.self.view_is j).opened
    in
    (now, subst IsValid (sym is) (c.requires.valid (subst IsValid c.self.view_is c.self.invariant.1)))
