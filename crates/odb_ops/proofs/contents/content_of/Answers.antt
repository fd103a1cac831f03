use Rattle.std.proofs.Common.{map, ap, ◌∙◌}
use Rattle.std.proofs.lemmas.List.{take_all}
use Rattle.odb_atoms.specs.Row.{cell}
use Rattle.odb_cond.specs.Represented.Clause.{selector_of}
use Rattle.odb_ops.proofs.Selected.{projected}
use Rattle.odb_ops.proofs.contents.content_of.Goals as goal

pub returns : goal.returns
returns c =
    let e = c.args.row.now in
    c.loop-column.invariant
    ∙ ap (map (λ k. cell e.0 e.1 (selector_of k))) (take_all c.loop-column.column-index c.args.columns.now c.loop-column-test.false)
    ∙ projected c.args.columns.now e.0 e.1
