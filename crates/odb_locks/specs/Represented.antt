-- What the types of the code stand for.
pub mod Lock
pub mod Notice
pub mod LockTable
pub mod Index
pub mod Locks
