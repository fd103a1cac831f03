use Rattle.std.proofs.Common.{rules, ◌≡◌, ◌<◌, ◌++◌, length, slice_index_or}
use Rattle.odb_integrity.specs.Represented.Reference.{column_references}
use Rattle.odb_integrity.proofs.Referring.{parts_more}
use Rattle.odb_integrity.proofs.referrers.append_table.Goals as goal

pub loop-place-preserved : goal.loop-place-preserved
loop-place-preserved c =
    let s = c.args.schema.now in
    let t = c.args.id in
    let cs = c.columns-column-items.result.now in
    let k = c.loop-place.place in
    let x = c.column-item.result in
    let inside : k < length cs = search rules in
    let is : x ≡ slice_index_or cs k x = search rules in
    let more : c.append_column.new.references.items ≡ c.loop-place.references.items ++ column_references s t k x.type = search rules in
    parts_more (λ f. column_references s t f.0 f.1.type) c.loop-place.references.items c.append_column.new.references.items _ cs k x inside is c.loop-place.invariant more
