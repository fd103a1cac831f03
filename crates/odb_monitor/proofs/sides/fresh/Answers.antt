use Rattle.std.proofs.Common.{rules, ◌≡◌, ◌++◌, ◌∷◌, []}
use Rattle.odb_monitor.specs.Represented.Candidates.{fresh_in}
use Rattle.odb_monitor.specs.Represented.Sides.{sides_in}
use Rattle.odb_tables.specs.Represented.Table.{listed}
use Rattle.odb_monitor.proofs.Loops.{mapped_more}
use Rattle.odb_monitor.proofs.sides.fresh.Goals as goal

pub loop-row-preserved : goal.loop-row-preserved
loop-row-preserved c =
    let grown : c.push.new.self.items ≡ c.loop-row.all.items ++ c.coming-sides.result ∷ [] = search rules in
    mapped_more sides_in fresh_in listed c.args.rows.now c.loop-row.row-index c.row-item.result c.loop-row.all.items c.push.new.self.items c.coming-sides.result c.loop-row-test.true c.row-item.is grown c.coming-sides.ensures c.loop-row.invariant
