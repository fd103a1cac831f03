use Rattle.std.proofs.Common.{map, ap, ◌∙◌}
use Rattle.std.proofs.lemmas.List.{take_all}
use Rattle.odb_cond.specs.Represented.Clause.{selector_of}
use Rattle.odb_json.specs.Represented.Row.{cell_of}
use Rattle.odb_ops.specs.Represented.Cells.{value_in}
use Rattle.odb_ops.proofs.Written.{through}
use Rattle.odb_ops.proofs.wait.expected.Goals as goal

pub returns : goal.returns
returns c =
    c.new.ensures ∙ c.loop-column.invariant
    ∙ ap (map (λ k. value_in c.args.declared.now (map cell_of c.args.given.now) (selector_of k))) (take_all c.loop-column.column-index c.args.columns.now c.loop-column-test.false)
    ∙ through (value_in c.args.declared.now (map cell_of c.args.given.now)) selector_of c.args.columns.now
