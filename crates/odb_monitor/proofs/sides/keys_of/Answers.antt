use Rattle.std.proofs.Common.{rules, ◌≡◌}
use Rattle.odb_monitor.proofs.KeySets.{seen_more}
use Rattle.odb_monitor.proofs.sides.keys_of.Goals as goal

pub loop-change-preserved : goal.loop-change-preserved
loop-change-preserved c =
    let x = c.change-item.result in
    let is : c.of.result ≡ x.0 = search rules in
    seen_more c.loop-change.keys c.insert.new.self c.args.changes.now c.loop-change.change-index x c.loop-change-test.true c.change-item.is c.of.result is c.in_ok-insert.ensures.updates c.loop-change.invariant
