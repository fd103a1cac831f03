use Rattle.std.proofs.Common.{[], map, sym, ◌∙◌}
use Rattle.std.proofs.lemmas.Result.{on_ok_weaker}
use Rattle.odb_service.specs.Server.{Server, served_by}
use Rattle.odb_service.specs.World.{World, try_due}
use Rattle.odb_sessions.specs.Represented.Ended.{ending_of}
use Rattle.odb_core.specs.Represented.Steps.{by_service}
use Rattle.odb_core.specs.Represented.Upcoming.{after_due}
use Rattle.odb_core.specs.Stuck.{AreStuck}
use Rattle.odb_core.proofs.HeldTransactions.{due_stuck}
use Rattle.odb_core.proofs.SessionsOfSchema as of_schema
use Rattle.odb_core.proofs.Upcomings.{left_on}
use Rattle.odb_core.proofs.ValidSteps.{valid_ended}
use Rattle.odb_core.proofs.server.Core.end_due.Goals as goal

pub carry_out_plan-requires-clause-plan : goal.carry_out_plan-requires-clause-plan
carry_out_plan-requires-clause-plan c = c.in_ok-plan.ensures.plan.0

pub carry_out_plan-requires-clause-stuck : goal.carry_out_plan-requires-clause-stuck
carry_out_plan-requires-clause-stuck c = λ stuck.
    let v : Server = c.args.self.now in
    let u : Server = by_service after_due v in
    let after : AreStuck v.schema u.world.db u.world.waiting = due_stuck v.schema v.world (c.requires.tried (served_by v.schema)) stuck (c.in_ok-plan.ensures.tried (served_by v.schema)) in
    left_on v u c.in_ok-plan.plan c.in_ok-plan.ensures.plan after

pub carry_out_plan-requires-clause-valid : goal.carry_out_plan-requires-clause-valid
carry_out_plan-requires-clause-valid c = λ valid.
    let v : Server = c.args.self.now in
    let none : World = record (v.world) { waiting = [] } in
    let p = c.in_ok-plan.plan in
    valid_ended v (by_service after_due v) (map ending_of p.ended.items) p.left c.in_ok-plan.ensures.plan.1 c.in_ok-plan.ensures.tried
    (λ of. of_schema.retries_all v.schema (try_due (served_by v.schema) v.world.waiting none) (of_schema.dues v.schema v.world.waiting none of)) valid

pub returns-clause-ok : goal.returns-clause-ok
returns-clause-ok c = on_ok_weaker c.carry_out_plan.result (λ e. c.in_ok-plan.ensures.plan.1 ∙ sym e) c.carry_out_plan.ensures.ok
