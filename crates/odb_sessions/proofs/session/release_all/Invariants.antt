use Rattle.std.proofs.Common.{flat_map}
use Rattle.odb_chain.specs.Chains.{Chains}
use Rattle.odb_sessions.specs.Marked.{marks_in}
use Rattle.odb_sessions.specs.Tied.{Frees, HasAll}
use Rattle.odb_sessions.proofs.session.release_all.Given as goal

abbrev pub invariant-loop-monitor : goal.invariant-loop-monitor
invariant-loop-monitor l = record {
  has : HasAll l.past (flat_map marks_in l.monitor-iterator.rest.items);
  frees : (k : Chains) → Frees l.past k (flat_map marks_in l.monitor-iterator.rest.items) → Frees l.initial.past k (flat_map marks_in l.initial.monitor-iterator.rest.items);
}
