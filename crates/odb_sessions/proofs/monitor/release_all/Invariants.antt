use Rattle.odb_chain.specs.Chains.{Chains}
use Rattle.odb_sessions.specs.Tied.{Frees, HasAll}
use Rattle.odb_sessions.specs.Marked.{table_marks}
use Rattle.odb_sessions.proofs.monitor.release_all.Given as goal

abbrev pub invariant-loop-table : goal.invariant-loop-table
invariant-loop-table l = record {
  has : HasAll l.past (table_marks l.table-iterator.rest.items);
  frees : (k : Chains) → Frees l.past k (table_marks l.table-iterator.rest.items) → Frees l.initial.past k (table_marks l.initial.table-iterator.rest.items);
}
