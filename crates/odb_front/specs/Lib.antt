pub mod Answers
pub mod Front
pub mod Locks
pub mod Represented
pub mod Writes
