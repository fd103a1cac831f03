use Rattle.std.proofs.Common.{flat_map, length}
use Rattle.odb_chain.specs.Chains.{Chains}
use Rattle.odb_sessions.specs.Marked.{marks_due}
use Rattle.odb_sessions.specs.Tied.{Frees, HasAll}
use Rattle.odb_sessions.proofs.queue.Queue.release.Given as goal

abbrev pub invariant-loop-item : goal.invariant-loop-item
invariant-loop-item l = record {
  has : HasAll l.past (flat_map marks_due l.queue);
  frees : (k : Chains) → Frees l.past k (flat_map marks_due l.queue) → Frees l.initial.past k (flat_map marks_due l.initial.queue);
}

abbrev pub decreases-loop-item : goal.decreases-loop-item
decreases-loop-item l = length l.queue
