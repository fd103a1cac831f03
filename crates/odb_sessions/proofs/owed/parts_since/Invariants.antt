use Rattle.std.proofs.Common.{◌≡◌, ◌≤◌, length, map, take}
use Rattle.std.specs.Prelude.{vec_len, vec_capacity}
use Rattle.odb_sessions.specs.Composed.{part_since}
use Rattle.odb_sessions.specs.Marked.{Watched}
use Rattle.odb_sessions.proofs.owed.parts_since.Given as goal

abbrev pub invariant-loop-table : goal.invariant-loop-table
invariant-loop-table l = (l.parts.items ≡ map (λ (w : Watched). part_since (take l.ago l.recent.undos) l.chains.db w.request) (take l.table-index l.tables)) × (vec_len l.parts ≤ l.table-index) × (length l.tables ≤ vec_capacity l.parts)
