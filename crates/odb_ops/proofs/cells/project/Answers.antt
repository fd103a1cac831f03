use Rattle.std.proofs.Common.{map, ap, ◌∙◌}
use Rattle.std.proofs.lemmas.List.{take_all}
use Rattle.odb_atoms.specs.Represented.Atom.{uuid_of}
use Rattle.odb_atoms.specs.Row.{cell}
use Rattle.odb_cond.specs.Represented.Clause.{selector_of}
use Rattle.odb_ops.proofs.Selected.{projected}
use Rattle.odb_ops.proofs.cells.project.Goals as goal

pub returns : goal.returns
returns c =
    c.new.ensures ∙ c.loop-column.invariant
    ∙ ap (map (λ k. cell (uuid_of c.args.uuid) c.args.row.now (selector_of k))) (take_all c.loop-column.column-index c.args.columns.now c.loop-column-test.false)
    ∙ projected c.args.columns.now (uuid_of c.args.uuid) c.args.row.now
