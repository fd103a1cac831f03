use Rattle.std.proofs.Common.{rules, ◌≡◌, ◌<◌, length, zip, slice_index_or, false, sym, ap, ◌∙◌}
use Rattle.std.specs.List.{list_any}
use Rattle.odb_tables.specs.Database.{table_at}
use Rattle.odb_integrity.specs.Settlement.{has_duplicates}
use Rattle.odb_integrity.proofs.Zipped.{none_at_place, one_holds, one_lacks}
use Rattle.odb_integrity.proofs.indexes.has_duplicates.Goals as goal

pub returns-then-branch : goal.returns-then-branch
returns-then-branch c =
    let db = c.args.draft.now.now in
    let ts = c.tables-table-items.result.now in
    let k = c.loop-place.place in
    let t = c.table-item.result in
    let low : k < length ts = search rules in
    let is : t ≡ slice_index_or ts k t = search rules in
    let long : length db ≡ length ts = c.requires.length ∙ ap length (sym c.tables-table-items.ensures) in
    let answer : c.in_ok-table_has_duplicates.field-0 ≡ has_duplicates (t, table_at db k) = c.in_ok-table_has_duplicates.ensures ∙ ap (λ n. has_duplicates (t, table_at db n)) c.at.ensures in
    one_holds has_duplicates ts db k t (list_any has_duplicates (zip c.args.schema.now.tables db)) low long is c.loop-place.invariant c.in_ok-table_has_duplicates.field-0 answer c.if-branch.true

pub loop-place-preserved : goal.loop-place-preserved
loop-place-preserved c =
    let db = c.args.draft.now.now in
    let ts = c.tables-table-items.result.now in
    let k = c.loop-place.place in
    let t = c.table-item.result in
    let low : k < length ts = search rules in
    let is : t ≡ slice_index_or ts k t = search rules in
    let long : length db ≡ length ts = c.requires.length ∙ ap length (sym c.tables-table-items.ensures) in
    let answer : c.in_ok-table_has_duplicates.field-0 ≡ has_duplicates (t, table_at db k) = c.in_ok-table_has_duplicates.ensures ∙ ap (λ n. has_duplicates (t, table_at db n)) c.at.ensures in
    one_lacks has_duplicates ts db k t (list_any has_duplicates (zip c.args.schema.now.tables db)) low long is c.loop-place.invariant c.in_ok-table_has_duplicates.field-0 answer c.if-branch.false

pub table_has_duplicates-requires : goal.table_has_duplicates-requires
table_has_duplicates-requires c =
    let db = c.args.draft.now.old in
    let ts = c.tables-table-items.result.now in
    let k = c.loop-place.place in
    let t = c.table-item.result in
    let low : k < length ts = search rules in
    let is : t ≡ slice_index_or ts k t = search rules in
    let long : length db ≡ length ts = sym c.len-tables.ensures.old ∙ c.len-tables.ensures.now ∙ c.requires.length ∙ ap length (sym c.tables-table-items.ensures) in
    let none : list_any has_duplicates (zip ts db) ≡ false = ap (λ us. list_any has_duplicates (zip us db)) c.tables-table-items.ensures ∙ c.requires.settled in
    ap (λ n. has_duplicates (t, table_at db n)) c.at.ensures ∙ none_at_place has_duplicates ts db k t low long is none
