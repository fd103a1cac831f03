use Rattle.std.proofs.Common.{rules, ◌≡◌, ◌≤◌, List, length, map, ap, ◌∙◌}
use Rattle.std.proofs.lemmas.List.{take_all}
use Rattle.odb_atoms.specs.FinMap as finite
use Rattle.odb_recent.specs.Undo.{olds}
use Rattle.odb_tables.proofs.Leading.{Entry}
use Rattle.odb_recent.proofs.Changing.{OldEntry}
use Rattle.odb_recent.proofs.Listing.{old_of, olds-listed}
use Rattle.odb_recent.proofs.table_undo.TableUndo.of.Goals as goal

pub returns : goal.returns
returns c =
    let es : List Entry = c.rows-row-items.result.now in
    let i = c.loop-row.row-index in
    let past : length es ≤ i = search rules in
    let items : c.loop-row.rows.items ≡ map old_of es = c.loop-row.invariant ∙ ap (map old_of) (take_all i es past) in
    let same : finite.from_entries c.loop-row.rows.items ≡ olds c.args.change.now =
    ap (λ (xs : List OldEntry). finite.from_entries xs) items ∙ olds-listed es c.args.change.now c.rows-row-items.ensures.changes in
    λ j. (c.args.table, same j)
