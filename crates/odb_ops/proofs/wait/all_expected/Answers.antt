use Rattle.std.proofs.Common.{map, ap, ◌∙◌}
use Rattle.std.proofs.lemmas.List.{take_all}
use Rattle.odb_cond.specs.Represented.Clause.{selector_of}
use Rattle.odb_json.specs.Represented.Row.{cells_of}
use Rattle.odb_ops.specs.Execution.{expected}
use Rattle.odb_ops.proofs.Written.{through}
use Rattle.odb_ops.proofs.wait.all_expected.Goals as goal

pub returns : goal.returns
returns c =
    c.loop-row.invariant
    ∙ ap (map (λ row. expected c.args.declared.now (map selector_of c.args.columns.now) (cells_of row))) (take_all c.loop-row.row-index c.args.rows.now c.loop-row-test.false)
    ∙ through (expected c.args.declared.now (map selector_of c.args.columns.now)) cells_of c.args.rows.now
