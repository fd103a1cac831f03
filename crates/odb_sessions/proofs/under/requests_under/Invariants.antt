use Rattle.std.proofs.Common.{◌≡◌, ◌≤◌, length, take}
use Rattle.std.specs.Prelude.{vec_len, vec_capacity}
use Rattle.odb_service.specs.Session.{refilter}
use Rattle.odb_sessions.specs.Composed.{asked_of}
use Rattle.odb_sessions.specs.Represented.Under.{filters_in}
use Rattle.odb_sessions.proofs.under.requests_under.Given as goal

abbrev pub invariant-loop-table : goal.invariant-loop-table
invariant-loop-table l = (l.requests.items ≡ refilter (filters_in l.under) (asked_of (take l.table-index l.tables))) × (vec_len l.requests ≤ l.table-index) × (length l.tables ≤ vec_capacity l.requests)
