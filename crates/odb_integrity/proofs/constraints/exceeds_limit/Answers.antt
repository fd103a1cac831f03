use Rattle.std.proofs.Common.{rules, ◌≡◌, ◌<◌, length}
use Rattle.odb_atoms.specs.FinMap as map
use Rattle.odb_tables.specs.Database.{table_at}
use Rattle.odb_integrity.proofs.Zipped.{above_limit, limit_left, within_limit}
use Rattle.odb_integrity.proofs.constraints.exceeds_limit.Goals as goal

pub returns-then-count-left : goal.returns-then-count-left
returns-then-count-left c =
    let db = c.args.draft.now.now in
    let k = c.loop-place.place in
    let low : k < length db = search rules in
    let count : c.row_count-count.result ≡ map.len (table_at db k) = search rules in
    above_limit db k c.loop-place.left c.args.max_rows c.row_count-count.result low c.loop-place.invariant count (search rules)

pub loop-place-preserved : goal.loop-place-preserved
loop-place-preserved c =
    let db = c.args.draft.now.now in
    let k = c.loop-place.place in
    let low : k < length db = search rules in
    let count : c.row_count-count.result ≡ map.len (table_at db k) = search rules in
    limit_left db k c.loop-place.left c.args.max_rows c.row_count-count.result low c.loop-place.invariant count (search rules)

pub returns : goal.returns
returns c = within_limit c.args.draft.now.now c.loop-place.place c.loop-place.left c.args.max_rows (search rules) c.loop-place.invariant
