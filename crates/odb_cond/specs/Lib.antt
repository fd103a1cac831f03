pub mod Condition
pub mod Filter
pub mod Pinned
pub mod Represented
