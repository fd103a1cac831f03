use Rattle.std.proofs.Common.{rules, ◌≡◌, ◌<◌, ◌++◌, flat_map, length, slice_index_or, ap, ◌∙◌}
use Rattle.std.specs.List.{enumerate_from}
use Rattle.odb_integrity.specs.Represented.Reference.{column_references}
use Rattle.odb_integrity.proofs.Referring.{parts_more}
use Rattle.odb_integrity.proofs.referrers.references_of.Goals as goal

pub loop-place-preserved : goal.loop-place-preserved
loop-place-preserved c =
    let s = c.args.schema.now in
    let ts = c.tables-table-items.result.now in
    let k = c.loop-place.place in
    let x = c.table-item.result in
    let inside : k < length ts = search rules in
    let is : x ≡ slice_index_or ts k x = search rules in
    let at : c.at.result ≡ k = search rules in
    let more : c.append_table.new.references.items ≡ c.loop-place.references.items ++ flat_map (λ f. column_references s k f.0 f.1.type) (enumerate_from 0 x.columns) =
    c.in_ok-append_table.ensures ∙ ap (λ n. c.loop-place.references.items ++ flat_map (λ f. column_references s n f.0 f.1.type) (enumerate_from 0 x.columns)) at in
    parts_more (λ e. flat_map (λ f. column_references s e.0 f.0 f.1.type) (enumerate_from 0 e.1.columns)) c.loop-place.references.items c.append_table.new.references.items _ ts k x inside is c.loop-place.invariant more
