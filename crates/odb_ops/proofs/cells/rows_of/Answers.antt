use Rattle.std.proofs.Common.{◌≡◌, ◌++◌, ◌∙◌, flat_map, map, option_to_list, sym, ap}
use Rattle.std.proofs.lemmas.List.{take_all}
use Rattle.odb_atoms.specs.Represented.Atom.{uuid_of}
use Rattle.odb_cond.specs.Represented.Clause.{selector_of}
use Rattle.odb_tables.specs.Database.{table_at}
use Rattle.odb_ops.specs.Represented.Cells.{cells_at}
use Rattle.odb_ops.proofs.Loops.{flat_more}
use Rattle.odb_ops.proofs.cells.rows_of.Goals as goal

pub loop-uuid-preserved : goal.loop-uuid-preserved
loop-uuid-preserved c =
    let cells = cells_at (map selector_of c.args.columns.now) (table_at c.args.draft.now.now c.args.table) in
    let grown : c.add.new.rows.items ≡ c.loop-uuid.rows.items ++ option_to_list c.in_ok-row.row = c.in_ok-add.ensures in
    let row : option_to_list c.in_ok-row.row ≡ cells (uuid_of c.uuid-item.result) = c.in_ok-row.ensures in
    grown ∙ (λ i. c.loop-uuid.invariant i ++ row i) ∙ sym (flat_more cells uuid_of c.args.uuids.now c.loop-uuid.uuid-index c.uuid-item.result c.loop-uuid-test.true c.uuid-item.is)

pub returns : goal.returns
returns c =
    let cells = cells_at (map selector_of c.args.columns.now) (table_at c.args.draft.now.now c.args.table) in
    c.loop-uuid.invariant ∙ ap (λ us. flat_map cells (map uuid_of us)) (take_all c.loop-uuid.uuid-index c.args.uuids.now c.loop-uuid-test.false)
