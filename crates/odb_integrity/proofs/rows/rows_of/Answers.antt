use Rattle.std.proofs.Common.{rules, ◌≡◌, ◌<◌, ◌++◌, length, sym, ◌∙◌}
use Rattle.odb_integrity.proofs.Databases.{ids_at, row_ids-more}
use Rattle.odb_tables.specs.Database.{table_at}
use Rattle.odb_integrity.proofs.rows.rows_of.Goals as goal

pub loop-place-preserved : goal.loop-place-preserved
loop-place-preserved c =
    let db = c.args.draft.now.now in
    let k = c.loop-place.place in
    let inside : k < length db = search rules in
    let at : c.at.result ≡ k = search rules in
    c.in_ok-append_table.ensures ∙ (λ i. c.loop-place.invariant i ++ ids_at (at i) (table_at db (at i))) ∙ sym (row_ids-more db k inside)
