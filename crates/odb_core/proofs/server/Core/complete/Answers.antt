use Rattle.std.proofs.Common.{rules, ◌≡◌, true, false, length, [], Option, Some, None, sym, ap, ◌∙◌}
use Rattle.std.proofs.lemmas.List.{nil_from_length}
use Rattle.odb_ops.specs.Represented.Ran.{results_of}
use Rattle.odb_schema.specs.Json.{array_of}
use Rattle.odb_tables.specs.Change.{all_changed_by}
use Rattle.odb_wire.specs.Shown.{request_data}
use Rattle.odb_service.specs.Server.{Server, served_by}
use Rattle.odb_service.specs.World.{Waiting, World, attempt, end_transaction, is_untried, split_first, untried}
use Rattle.odb_core.specs.Represented.Steps.{by_service}
use Rattle.odb_core.specs.Represented.Waiting.{ends, waiting_as}
use Rattle.odb_core.proofs.Attempts.{done_as, has_rows}
use Rattle.odb_core.proofs.HandledRequests.{runs_alone, runs_ended}
use Rattle.odb_core.proofs.ServerSteps.{framed, placed}
use Rattle.odb_core.proofs.server.Core.complete.Goals as goal

pub returns-then-not-changes_rows-clause-ok : goal.returns-then-not-changes_rows-clause-ok
returns-then-not-changes_rows-clause-ok c =
    let s = c.args.self.now.schema in
    let w : World = c.args.self.now.world in
    let a = c.args.asked.now in
    let h = served_by s in
    let v : Server = c.reply.new.self in
    let none : has_rows s w a None w.commits c.args.change ≡ false = search rules in
    let e : by_service (ends a c.args.results None) c.args.self.now ≡ v = c.in_ok-reply.ensures.ok in
    let ended : attempt h (waiting_as a None w.commits) w ≡ (v.world, None) =
    done_as s w a None w.commits c.args.results c.args.change false none c.requires.outcome
    ∙ (λ i. let t : World × Option Waiting = ((e i).world, None) in t)
    in
    ap (placed c.args.self.now) (runs_alone h (waiting_as a None w.commits) w v.world ended (ap (λ (u : Server). untried h u.world) c.reply.ensures.others ∙ c.requires.tried h))
    ∙ framed c.args.self.now v _ e

pub returns-then-is_empty-clause-ok : goal.returns-then-is_empty-clause-ok
returns-then-is_empty-clause-ok c =
    let s = c.args.self.now.schema in
    let w : World = c.args.self.now.world in
    let a = c.args.asked.now in
    let h = served_by s in
    let v : Server = c.commit.new.self in
    let some : has_rows s w a None w.commits c.args.change ≡ true = search rules in
    let long : length c.self.inside.waiting ≡ 0 = search rules in
    let empty : w.waiting ≡ [] = ap (λ (u : Server). u.world.waiting) (sym c.self.view_is) ∙ nil_from_length c.self.inside.waiting long in
    let e : by_service (ends a c.args.results (Some (all_changed_by w.db c.args.change))) c.args.self.now ≡ v = c.in_ok-commit.ensures.ok in
    let ended : attempt h (waiting_as a None w.commits) w ≡ (v.world, None) =
    done_as s w a None w.commits c.args.results c.args.change true some c.requires.outcome
    ∙ (λ i. let t : World × Option Waiting = ((e i).world, None) in t)
    in
    ap (placed c.args.self.now) (runs_alone h (waiting_as a None w.commits) w v.world ended (ap (split_first (is_untried v.world.commits)) (c.commit.ensures.waiting ∙ empty)))
    ∙ framed c.args.self.now v _ e

pub returns-clause-ok : goal.returns-clause-ok
returns-clause-ok c =
    let s = c.args.self.now.schema in
    let w : World = c.args.self.now.world in
    let a = c.args.asked.now in
    let h = served_by s in
    let some : has_rows s w a None w.commits c.args.change ≡ true = search rules in
    let v : World = end_transaction h a.session (request_data a.request) (array_of (results_of c.args.results)) (Some (all_changed_by w.db c.args.change)) w in
    ap (placed c.args.self.now) (runs_ended h (waiting_as a None w.commits) w v (done_as s w a None w.commits c.args.results c.args.change true some c.requires.outcome))
    ∙ c.in_ok-commit_beside.ensures.ok
