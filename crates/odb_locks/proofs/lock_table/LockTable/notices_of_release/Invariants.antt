use Rattle.std.proofs.Common.{◌≡◌, map, string_bytes}
use Rattle.odb_locks.specs.Locks.{lock_of}
use Rattle.odb_locks.specs.Represented.Locks.{all_notices}
use Rattle.odb_locks.specs.Represented.Notice.{notices_of}
use Rattle.odb_locks.proofs.lock_table.LockTable.notices_of_release.Given as goal

abbrev pub invariant-loop-name : goal.invariant-loop-name
invariant-loop-name l = notices_of l.notices.items ≡ all_notices l.session (lock_of l.self) (map (λ name. string_bytes name.now) l.yielded)
