use Rattle.std.proofs.Common.{◌≡◌, ◌<◌, length}
use Rattle.std.specs.List.{All}
use Rattle.odb_integrity.specs.Steps.{with_rows}
use Rattle.odb_integrity.proofs.pruning.put_all.Given as goal

abbrev pub invariant-loop-id : goal.invariant-loop-id
invariant-loop-id l = record {
  put : with_rows l.id-iterator.rest.items l.draft.now ≡ with_rows l.fn.changes.items l.fn.draft.now;
  base : l.draft.old ≡ l.fn.draft.old;
  sized : length l.draft.old ≡ length l.fn.draft.now;
  in_tables : All (λ c. c.0.0 < length l.fn.draft.now) l.id-iterator.rest.items;
}
