use Rattle.std.proofs.Common.{rules, ◌≡◌, ◌<◌, length, slice_index_or}
use Rattle.odb_integrity.specs.Steps.{pruning}
use Rattle.odb_integrity.proofs.Named.{mapped_more}
use Rattle.odb_integrity.proofs.pruning.prunings.Goals as goal

pub loop-row-preserved : goal.loop-row-preserved
loop-row-preserved c =
    let rows = c.args.rows.now in
    let i = c.loop-row.row-index in
    let y = c.row-item.result in
    let inside : i < length rows = search rules in
    let is : y ≡ slice_index_or rows i y = search rules in
    mapped_more (pruning c.args.schema.now c.args.draft.now.now) c.loop-row.changes.items c.append_pruning.new.changes.items rows i y inside is c.loop-row.invariant c.in_ok-append_pruning.ensures
