pub mod Causes
pub mod Deadlines
pub mod Marked
pub mod Represented
pub mod Stuck
