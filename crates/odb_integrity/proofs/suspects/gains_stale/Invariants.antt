use Rattle.std.proofs.Common.{◌≡◌, drop}
use Rattle.std.specs.List.{enumerate_from, list_any}
use Rattle.odb_integrity.specs.Gained.{cell_of, gains_stale, gains_stale_at}
use Rattle.odb_integrity.proofs.suspects.gains_stale.Given as goal

abbrev pub invariant-loop-place : goal.invariant-loop-place
invariant-loop-place l = list_any (λ e. gains_stale_at l.schema l.draft.now e.1.type (cell_of l.draft.old l.fn.id e.0) (cell_of l.draft.now l.fn.id e.0)) (enumerate_from l.place (drop l.place l.column-items)) ≡ gains_stale l.schema l.draft.old l.draft.now l.fn.id
