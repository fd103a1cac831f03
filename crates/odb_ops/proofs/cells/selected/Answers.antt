use Rattle.std.proofs.Common.{rules, ◌≡◌, List, flat_map, map, ap, ◌∙◌}
use Rattle.std.proofs.lemmas.Result.{IfOk-weaker}
use Rattle.odb_atoms.specs.FinMap as finite
use Rattle.odb_atoms.specs.Represented.Atom.{uuid_of}
use Rattle.odb_atoms.specs.Row.{Selector}
use Rattle.odb_cond.specs.Represented.Clause.{selector_of}
use Rattle.odb_ops.specs.Represented.Cells.{cells_at}
use Rattle.odb_ops.proofs.Selected.{selected-keys}
use Rattle.odb_ops.proofs.cells.selected.Goals as goal
use Rattle.odb_tables.specs.Database.{Table, table_at}
use Rattle.odb_tables.specs.Matching.{matching}

pub returns : goal.returns
returns c =
    let columns : List Selector = map selector_of c.args.columns.now in
    let table : Table = table_at c.args.draft.now.now c.args.table in
    let found : map uuid_of c.deref.result.now ≡ finite.keys (matching c.args.conditions.now table) = search rules in
    IfOk-weaker c.rows_of.result _ _ (λ rows h. h ∙ ap (flat_map (cells_at columns table)) found ∙ selected-keys columns c.args.conditions.now table) c.rows_of.ensures
