-- What the faults of locks stand for.
use Rattle.std.specs.Prelude.{Option, Some, None}
use Rattle.odb_locks.specs.Locks as model
use Rattle.odb_locks.specs.declared.locks.LockFault.{LockFault}
use Rattle.odb_locks.specs.declared.locks.LockFault.TheVariants as fault

-- want of memory is none of the machine's
abbrev pub fault_of : LockFault → Option model.LockFault
fault_of fault.OutOfTurn = Some model.out_of_turn
fault_of fault.TooMany = Some model.too_many_names
fault_of fault.Memory = None
