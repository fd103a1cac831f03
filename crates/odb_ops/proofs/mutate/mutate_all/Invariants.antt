use Rattle.std.proofs.Common.{◌≡◌, ◌++◌, drop, map, option_map, option_to_list}
use Rattle.std.specs.Result.{result_ok}
use Rattle.odb_atoms.specs.Represented.Atom.{uuid_of}
use Rattle.odb_mutate.specs.Represented.Mutation.{error_of}
use Rattle.odb_ops.specs.Execution.{first_fault, mutated}
use Rattle.odb_ops.specs.Represented.Merged.{all_of}
use Rattle.odb_ops.specs.Represented.Parts.{AllFit, all_faults, all_rewritten}
use Rattle.odb_tables.specs.Database.{table_at}
use Rattle.odb_ops.proofs.mutate.mutate_all.Given as goal

abbrev pub invariant-loop-uuid : goal.invariant-loop-uuid
invariant-loop-uuid l = record {
  base : l.draft.old ≡ l.fn.draft.old;
  fit : AllFit l.target.columns.now (table_at l.draft.now l.target.table);
  rows : all_rewritten (λ r. result_ok (mutated l.target.columns.now (all_of l.runs) r)) l.target.table (map uuid_of (drop l.uuid-index l.uuids)) l.draft ≡ all_rewritten (λ r. result_ok (mutated l.target.columns.now (all_of l.runs) r)) l.target.table (map uuid_of l.uuids) l.fn.draft;
  faults : first_fault (option_to_list (option_map error_of l.first) ++ all_faults (mutated l.target.columns.now (all_of l.runs)) l.target.table (map uuid_of (drop l.uuid-index l.uuids)) l.draft) ≡ first_fault (all_faults (mutated l.target.columns.now (all_of l.runs)) l.target.table (map uuid_of l.uuids) l.fn.draft);
}
