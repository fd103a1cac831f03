use Rattle.std.proofs.Common.{rules, ◌≡◌, Bool, map, ap, subst, ◌∙◌}
use Rattle.odb_cond.specs.Represented.Clause.{selector_of}
use Rattle.odb_json.specs.Represented.Operation.{until_of}
use Rattle.odb_json.specs.Represented.Row.{cells_of}
use Rattle.odb_ops.specs.Execution as model
use Rattle.odb_ops.specs.Represented.Context.{context_of}
use Rattle.odb_ops.specs.Represented.Draft.{naming}
use Rattle.odb_ops.specs.Represented.Stop.{Performs}
use Rattle.odb_schema.specs.Schema.{columns_at}
use Rattle.odb_tables.specs.Database.{table_at}
use Rattle.odb_tables.specs.Draft.{Draft}
use Rattle.odb_tables.specs.Matching.{matching}
use Rattle.odb_ops.proofs.operation.wait.Goals as goal

pub returns : goal.returns
unfolding model.perform
returns c = λ u named.
    let ctx = context_of c.args.setting.now.context.now in
    let d : Draft = c.args.draft.now in
    let asked = c.args.asked.now in
    let columns = map selector_of asked.columns.items in
    let result = c.wait_or_go_on.result in
    let cs : c.target.result.columns.now ≡ columns_at c.args.setting.now.schema.now asked.table = search rules in
    let table : c.target.result.table ≡ asked.table = search rules in
    let same = c.in_ok-same.ensures ∙ (λ i. model.same_rows (model.selected columns (matching asked.conditions (table_at d.now (table i)))) (map (model.expected (cs i) columns) (map cells_of asked.rows.items))) in
    let reached = c.is_reached.ensures ∙ ap (model.is_reached (until_of asked.until)) same in
    let stop = model.unmet ctx (model.deadline ctx asked.timeout) in
    subst (λ (b : Bool). Performs (λ v. (naming named d, v)) result (model.go_on b (naming named d) stop)) reached (c.wait_or_go_on.ensures (naming named d))
