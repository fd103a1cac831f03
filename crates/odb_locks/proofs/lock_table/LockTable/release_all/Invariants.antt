use Rattle.std.proofs.Common.{◌≡◌, map, string_bytes}
use Rattle.odb_locks.specs.Represented.Locks.{all_released}
use Rattle.odb_locks.proofs.lock_table.LockTable.release_all.Given as goal

abbrev pub invariant-loop-name : goal.invariant-loop-name
invariant-loop-name l = l.self ≡ all_released l.session l.initial.self (map (λ name. string_bytes name.now) l.yielded)
