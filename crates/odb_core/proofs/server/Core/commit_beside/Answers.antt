use Rattle.std.proofs.Common.{Some, map, sym, ◌∙◌}
use Rattle.std.proofs.lemmas.Result.{on_ok_weaker}
use Rattle.odb_service.specs.Server.{Server, served_by}
use Rattle.odb_service.specs.World.{World, end_transaction, retry_all}
use Rattle.odb_sessions.specs.Represented.Ended.{ending_of}
use Rattle.odb_ops.specs.Represented.Ran.{results_of}
use Rattle.odb_schema.specs.Json.{array_of}
use Rattle.odb_tables.specs.Change.{all_changed_by}
use Rattle.odb_tables.specs.Database.{Db}
use Rattle.odb_wire.specs.Shown.{request_data}
use Rattle.odb_core.specs.Represented.Steps.{by_service}
use Rattle.odb_core.specs.Represented.Waiting.{ends}
use Rattle.odb_core.specs.Stuck.{AreStuck}
use Rattle.odb_core.proofs.HeldTransactions.{committed_stuck}
use Rattle.odb_core.proofs.SessionsOfSchema as of_schema
use Rattle.odb_core.proofs.Upcomings.{left_on}
use Rattle.odb_core.proofs.ValidSteps.{valid_ended}
use Rattle.odb_core.proofs.server.Core.commit_beside.Goals as goal

pub carry_out_plan-requires-clause-plan : goal.carry_out_plan-requires-clause-plan
carry_out_plan-requires-clause-plan c = c.in_ok-plan.ensures.plan.0

pub carry_out_plan-requires-clause-stuck : goal.carry_out_plan-requires-clause-stuck
carry_out_plan-requires-clause-stuck c = λ stuck.
    let v : Server = c.args.self.now in
    let a = c.args.asked.now in
    let d = request_data a.request in
    let db : Db = all_changed_by v.world.db c.args.change in
    let u : Server = by_service retry_all (by_service (ends a c.args.results (Some db)) v) in
    let after : AreStuck v.schema u.world.db u.world.waiting =
    committed_stuck v.schema a.session d (array_of (results_of c.args.results)) db v.world (c.requires.tried (served_by v.schema)) stuck (c.in_ok-plan.ensures.tried (served_by v.schema))
    in
    left_on v u c.in_ok-plan.plan c.in_ok-plan.ensures.plan after

pub carry_out_plan-requires-clause-valid : goal.carry_out_plan-requires-clause-valid
carry_out_plan-requires-clause-valid c = λ valid.
    let v : Server = c.args.self.now in
    let a = c.args.asked.now in
    let d = request_data a.request in
    let db : Db = all_changed_by v.world.db c.args.change in
    let r = array_of (results_of c.args.results) in
    let w : World = end_transaction (served_by v.schema) a.session d r (Some db) v.world in
    let p = c.in_ok-plan.plan in
    valid_ended v (by_service retry_all (by_service (ends a c.args.results (Some db)) v)) (map ending_of p.ended.items) p.left c.in_ok-plan.ensures.plan.1 c.in_ok-plan.ensures.tried
    (λ of. of_schema.retries_all v.schema w (of_schema.ends v.schema a.session d r (Some db) v.world of)) valid

pub returns-clause-ok : goal.returns-clause-ok
returns-clause-ok c = on_ok_weaker c.carry_out_plan.result (λ e. c.in_ok-plan.ensures.plan.1 ∙ sym e) c.carry_out_plan.ensures.ok
