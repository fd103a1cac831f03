use Rattle.std.proofs.Common.{rules, ◌≡◌, true}
use Rattle.odb_integrity.specs.Settlement.{at_row, dangles}
use Rattle.odb_integrity.proofs.Touched.{no_row, one_row}
use Rattle.odb_integrity.proofs.dangling.has_dangling.Goals as goal

pub returns-then-branch : goal.returns-then-branch
returns-then-branch c =
    let db = c.args.draft.now.now in
    let holds : at_row (dangles c.args.schema.now db) db c.row-item.result ≡ true = search rules in
    one_row (dangles c.args.schema.now db) db c.row-item.result holds

pub returns : goal.returns
returns c = no_row (dangles c.args.schema.now c.args.draft.now.now) c.args.draft.now.now c.args.rows.now c.requires c.loop-row.row-index (search rules) c.loop-row.invariant
