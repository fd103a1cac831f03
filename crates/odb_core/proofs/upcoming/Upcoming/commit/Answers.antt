use Rattle.std.proofs.Common.{rules, ◌≡◌, ℕ, ◌+◌, List, [], ◌∷◌, ◌++◌, false, map, Some, sym, ap, subst, ◌∙◌}
use Rattle.odb_commit.specs.Sound.{IsSound}
use Rattle.odb_service.specs.Server.{Server}
use Rattle.odb_sessions.specs.Committed.{Ending, all_ended}
use Rattle.odb_sessions.specs.Represented.Ended.{ending_of}
use Rattle.odb_tables.specs.Change.{all_changed_by}
use Rattle.odb_tables.specs.Database.{Db}
use Rattle.odb_tables.specs.Installing.{IsChangeOf}
use Rattle.odb_core.specs.Represented.Steps.{by_service}
use Rattle.odb_core.specs.Represented.Upcoming.{Agrees, Upcoming, after_ended, server_with}
use Rattle.odb_core.specs.Represented.Waiting.{ends, outcome_in, reply_with}
use Rattle.odb_core.proofs.Attempts.{done_is}
use Rattle.std.proofs.lemmas.List.{map-append}
use Rattle.odb_core.proofs.Upcomings.{changed, commit_next, is_put}
use Rattle.odb_core.proofs.upcoming.Upcoming.commit.Goals as goal

pub returns-clause-ok : goal.returns-clause-ok
returns-clause-ok c =
    let i = c.self.inside in
    let a = c.args.asked.now in
    let cs = c.args.change in
    let v : Server = server_with i.setting.schema.now i.setting.locks.now i.setting.now i.opened i.sessions.now in
    let es : List Ending = map ending_of i.ended.items in
    let e : Ending = (a.session, (reply_with a c.args.results, Some cs)) in
    let u : Server = after_ended v es i.waiting in
    let same : u ≡ c.args.self.now.next = ap (λ (x : Upcoming). x.next) c.self.view_is in
    let pushed : c.push_reserved.new.self.items ≡ i.ended.items ++ c.in_ok-ended.ended ∷ [] = search rules in
    let more : map ending_of c.push_reserved.new.self.items ≡ es ++ ending_of c.in_ok-ended.ended ∷ [] = ap (map ending_of) pushed ∙ map-append ending_of i.ended.items (c.in_ok-ended.ended ∷ []) in
    ap (λ (x : Server). by_service (ends a c.args.results (Some (all_changed_by x.world.db cs))) x) (sym same) ∙ commit_next v es i.waiting a c.args.results cs
    ∙ ap (λ (xs : List Ending). after_ended v xs i.waiting) (sym (more ∙ ap (λ (x : Ending). es ++ x ∷ []) c.in_ok-ended.ensures))

pub add-requires : goal.add-requires
add-requires c =
    let i = c.self.inside in
    let s = i.setting.schema.now in
    let v : Server = c.args.self.now.next in
    let es : List Ending = map ending_of i.ended.items in
    let whole : i.is_spoilt ≡ false = search rules in
    let is : IsChangeOf v.world.db c.args.change × IsSound v.schema (all_changed_by v.world.db c.args.change) = done_is v.schema v.world.db c.args.results c.args.change (outcome_in v.schema v.world c.args.asked.now) c.requires in
    subst (λ (db : Db). IsChangeOf db c.args.change) (sym (is_put s i.sessions.now i.is_spoilt i.pending i.commits es i.marks.items i.waiting c.self.invariant whole ∙ ap (λ (u : Upcoming). u.next.world.db) c.self.view_is)) is.0

pub invariant_of-self-2 : goal.invariant_of-self-2
invariant_of-self-2 c =
    let i = c.self.inside in
    let s = i.setting.schema.now in
    let a = c.args.asked.now in
    let cs = c.args.change in
    let es : List Ending = map ending_of i.ended.items in
    let e : Ending = (a.session, (reply_with a c.args.results, Some cs)) in
    let v : Server = c.args.self.now.next in
    let whole : i.is_spoilt ≡ false = search rules in
    let same : after_ended (server_with s i.setting.locks.now i.setting.now i.opened i.sessions.now) es i.waiting ≡ v = ap (λ (u : Upcoming). u.next) c.self.view_is in
    let is : IsChangeOf v.world.db cs × IsSound v.schema (all_changed_by v.world.db cs) = done_is v.schema v.world.db c.args.results cs (outcome_in v.schema v.world a) c.requires in
    let there : IsChangeOf (all_ended s i.sessions.now es).db cs × IsSound s (all_changed_by (all_ended s i.sessions.now es).db cs) =
    subst (λ (u : Server). IsChangeOf u.world.db cs × IsSound u.schema (all_changed_by u.world.db cs)) (sym same) is in
    let pushed : c.push_reserved.new.self.items ≡ i.ended.items ++ c.in_ok-ended.ended ∷ [] = search rules in
    let more : map ending_of c.push_reserved.new.self.items ≡ es ++ e ∷ [] =
    ap (map ending_of) pushed ∙ map-append ending_of i.ended.items (c.in_ok-ended.ended ∷ []) ∙ ap (λ (x : Ending). es ++ x ∷ []) c.in_ok-ended.ensures in
    let count : c.in_ok-commits.commits ≡ i.commits + 1 = search rules in
    subst (λ (xs : List Ending). Agrees false s i.sessions.now c.add.new.self c.in_ok-commits.commits xs c.unmark.new.marks.items i.waiting) (sym more)
    (subst (λ (n : ℕ). Agrees false s i.sessions.now c.add.new.self n (es ++ e ∷ []) c.unmark.new.marks.items i.waiting) (sym count)
    (changed s i.sessions.now i.is_spoilt i.pending i.commits es i.marks.items i.waiting c.self.invariant a.session (reply_with a c.args.results) cs c.add.new.self c.unmark.new.marks.items whole there.0 there.1 c.in_ok-add.ensures.ok c.in_ok-add.ensures.old c.unmark.ensures))
