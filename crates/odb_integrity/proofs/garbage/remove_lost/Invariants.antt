use Rattle.std.proofs.Common.{◌≡◌, filter, length}
use Rattle.odb_integrity.specs.Settlement.{is_there, row_ids}
use Rattle.odb_integrity.proofs.Rounds.{IsRound}
use Rattle.odb_integrity.proofs.garbage.remove_lost.Given as goal

abbrev pub invariant-loop-waiting : goal.invariant-loop-waiting
invariant-loop-waiting l = record {
  base : l.draft.old ≡ l.fn.draft.old;
  round : IsRound l.schema l.fn.draft.now l.draft.now l.waiting.items;
}

abbrev pub decreases-loop-waiting : goal.decreases-loop-waiting
decreases-loop-waiting l = length (filter (is_there l.draft.now) (row_ids l.fn.draft.now))
