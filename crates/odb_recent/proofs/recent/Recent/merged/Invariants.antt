use Rattle.std.proofs.Common.{◌≡◌, ◌≤◌, drop, take}
use Rattle.odb_recent.specs.Represented.Merged.{merged}
use Rattle.odb_recent.proofs.recent.Recent.merged.Given as goal

abbrev pub invariant-loop-left : goal.invariant-loop-left
invariant-loop-left l = record {
  rows : l.rows ≡ merged l.table (drop l.left (take l.ago l.self.undos));
  few : l.left ≤ l.initial.left;
}

abbrev pub decreases-loop-left : goal.decreases-loop-left
decreases-loop-left l = l.left
