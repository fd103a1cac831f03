use Rattle.std.proofs.Common.{◌≡◌, drop, true}
use Rattle.odb_json.specs.Suited.{are_taken}
use Rattle.odb_ops.specs.Execution.{mutated}
use Rattle.odb_ops.specs.Represented.Merged.{all_of}
use Rattle.odb_tables.specs.Typed.{fits}
use Rattle.odb_ops.proofs.mutate.mutated_row.Given as goal

abbrev pub invariant-loop-run : goal.invariant-loop-run
invariant-loop-run l = record {
  fit : fits l.columns l.row ≡ true;
  suit : are_taken l.columns (all_of (drop l.run-index l.runs)) ≡ true;
  row : mutated l.columns (all_of (drop l.run-index l.runs)) l.row ≡ mutated l.columns (all_of l.runs) l.fn.row;
}
