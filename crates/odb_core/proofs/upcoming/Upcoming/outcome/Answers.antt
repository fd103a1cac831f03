use Rattle.std.proofs.Common.{rules, ◌≡◌, ℕ, false, List, map, ap, subst, ◌∙◌}
use Rattle.std.proofs.lemmas.Result.{IfOk-weaker}
use Rattle.odb_commit.specs.Represented.Outcome.{Answers}
use Rattle.odb_service.specs.Server.{Server}
use Rattle.odb_sessions.specs.Committed.{Ending}
use Rattle.odb_sessions.specs.Represented.Ended.{ending_of}
use Rattle.odb_tables.specs.Database.{Db}
use Rattle.odb_core.specs.Represented.Upcoming.{Upcoming, after_ended, server_with}
use Rattle.odb_core.specs.Represented.Waiting.{IsOutcome, outcome_with}
use Rattle.odb_core.proofs.Upcomings.{is_put}
use Rattle.odb_core.proofs.upcoming.Upcoming.outcome.Goals as goal

pub returns : goal.returns
returns c =
    let i = c.self.inside in
    let s = i.setting.schema.now in
    let a = c.args.asked.now in
    let v : Server = server_with s i.setting.locks.now i.setting.now i.opened i.sessions.now in
    let es : List Ending = map ending_of i.ended.items in
    let same : after_ended v es i.waiting ≡ c.args.self.now.next = ap (λ (u : Upcoming). u.next) c.self.view_is in
    let whole : i.is_spoilt ≡ false = search rules in
    let begins : c.in_ok-draft.draft.old ≡ i.pending.now = ap (λ d. d.old) c.in_ok-draft.ensures in
    let db : c.in_ok-draft.draft.old ≡ (after_ended v es i.waiting).world.db = begins ∙ is_put s i.sessions.now i.is_spoilt i.pending i.commits es i.marks.items i.waiting c.self.invariant whole in
    let count : i.commits ≡ (after_ended v es i.waiting).world.commits = c.self.invariant.commits in
    IfOk-weaker c.outcome.result _ _ (λ o h.
    subst (λ (u : Server). IsOutcome u a o) same
    (subst (λ (n : ℕ). Answers s (after_ended v es i.waiting).world.db o (outcome_with s i.setting.locks.now i.setting.now n (after_ended v es i.waiting).world.db a)) count
    (subst (λ (d : Db). Answers s d o (outcome_with s i.setting.locks.now i.setting.now i.commits d a)) db h))) c.outcome.ensures
