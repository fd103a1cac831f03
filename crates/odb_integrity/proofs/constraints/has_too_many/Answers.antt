use Rattle.std.proofs.Common.{rules, ◌≡◌, ◌<◌, length, zip, slice_index_or, not, sym, ap, ◌∙◌}
use Rattle.std.specs.List.{list_all}
use Rattle.odb_tables.specs.Database.{table_at}
use Rattle.odb_integrity.specs.Settlement.{within_max_rows}
use Rattle.odb_integrity.proofs.Zipped.{one_fails, one_passes}
use Rattle.odb_integrity.proofs.constraints.has_too_many.Goals as goal

pub returns-then-exceeds_max_rows : goal.returns-then-exceeds_max_rows
returns-then-exceeds_max_rows c =
    let db = c.args.draft.now.now in
    let ts = c.tables-table-items.result.now in
    let k = c.loop-place.place in
    let t = c.table-item.result in
    let low : k < length ts = search rules in
    let is : t ≡ slice_index_or ts k t = search rules in
    let long : length db ≡ length ts = c.requires ∙ ap length (sym c.tables-table-items.ensures) in
    let answer : c.exceeds_max_rows.result ≡ not (within_max_rows (t, table_at db k)) = c.exceeds_max_rows.ensures ∙ ap (λ n. not (within_max_rows (t, table_at db n))) c.at.ensures in
    one_fails within_max_rows ts db k t (list_all within_max_rows (zip c.args.schema.now.tables db)) low long is c.loop-place.invariant c.exceeds_max_rows.result answer c.if-exceeds_max_rows.true

pub loop-place-preserved : goal.loop-place-preserved
loop-place-preserved c =
    let db = c.args.draft.now.now in
    let ts = c.tables-table-items.result.now in
    let k = c.loop-place.place in
    let t = c.table-item.result in
    let low : k < length ts = search rules in
    let is : t ≡ slice_index_or ts k t = search rules in
    let long : length db ≡ length ts = c.requires ∙ ap length (sym c.tables-table-items.ensures) in
    let answer : c.exceeds_max_rows.result ≡ not (within_max_rows (t, table_at db k)) = c.exceeds_max_rows.ensures ∙ ap (λ n. not (within_max_rows (t, table_at db n))) c.at.ensures in
    one_passes within_max_rows ts db k t (list_all within_max_rows (zip c.args.schema.now.tables db)) low long is c.loop-place.invariant c.exceeds_max_rows.result answer c.if-exceeds_max_rows.false
