use Rattle.std.proofs.Common.{◌≡◌, ◌≤◌, length, take}
use Rattle.std.specs.Prelude.{vec_capacity, vec_len}
use Rattle.odb_sessions.specs.Composed.{asked_of}
use Rattle.odb_sessions.proofs.first_texts.requests_of.Given as goal

abbrev pub invariant-loop-table : goal.invariant-loop-table
invariant-loop-table l = (l.requests.items ≡ asked_of (take l.table-index l.tables)) × (vec_len l.requests ≤ l.table-index) × (length l.tables ≤ vec_capacity l.requests)
