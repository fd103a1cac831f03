use Rattle.std.proofs.Common.{rules, ◌≡◌, zip, sym, ap, ◌∙◌}
use Rattle.std.specs.Iterator.Adapters.{zip_first, zip_second}
use Rattle.std.specs.List.{list_any}
use Rattle.std.specs.Slice.Iter.{iter_rest}
use Rattle.std.proofs.lemmas.Slice.Zip.{either_empty_from_Zip}
use Rattle.odb_schema.specs.Schema.{columns_at}
use Rattle.odb_integrity.specs.Settlement.{same_row, strong_of_value}
use Rattle.odb_integrity.proofs.Named.{zip_done}
use Rattle.odb_integrity.proofs.Settles.{any-flat_map}
use Rattle.odb_integrity.proofs.references.row_refers.Goals as goal

pub loop-column-init : goal.loop-column-init
loop-column-init c =
    let s = c.args.schema.now in
    let y = c.args.referent in
    let it = c.into_iter-column-iterator.result in
    let cells = zip (columns_at s c.args.id.0) c.args.row.now.columns in
    let start : zip (iter_rest (zip_first it)) (iter_rest (zip_second it)) ≡ cells = search rules in
    ap (list_any (λ e. list_any (same_row y) (strong_of_value s e.0.type e.1))) start ∙ sym (any-flat_map (same_row y) (λ e. strong_of_value s e.0.type e.1) cells)

pub returns : goal.returns
returns c =
    let done = zip_done _ _ (either_empty_from_Zip c.loop-column.column-iterator c.next.new.self c.next.result c.in-None.is c.next.ensures.steps) in
    ap (list_any (λ e. list_any (same_row c.args.referent) (strong_of_value c.args.schema.now e.0.type e.1))) (sym done) ∙ c.loop-column.invariant
