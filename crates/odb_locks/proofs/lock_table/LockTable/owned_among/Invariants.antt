use Rattle.std.proofs.Common.{◌≡◌, filter, map, string_bytes}
use Rattle.odb_locks.specs.Locks.{owns}
use Rattle.odb_locks.proofs.lock_table.LockTable.owned_among.Given as goal

abbrev pub invariant-loop-name : goal.invariant-loop-name
invariant-loop-name l = map (λ name. name.now) l.owned.items ≡ filter (owns l.self l.session) (map (λ name. string_bytes name.now) l.yielded)
