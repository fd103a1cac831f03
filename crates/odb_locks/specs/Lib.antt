pub mod Locks
pub mod Represented
