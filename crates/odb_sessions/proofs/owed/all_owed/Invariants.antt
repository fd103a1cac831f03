use Rattle.std.proofs.Common.{◌≡◌, ◌≤◌, length, take}
use Rattle.std.specs.Prelude.{vec_len, vec_capacity}
use Rattle.odb_sessions.proofs.owed.all_owed.Given as goal

abbrev pub invariant-loop-table : goal.invariant-loop-table
invariant-loop-table l = (l.owed.items ≡ take l.table-index l.tables) × (vec_len l.owed ≤ l.table-index) × (length l.tables ≤ vec_capacity l.owed)
