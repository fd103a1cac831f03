-- What the types of the code stand for.
pub mod Clause
pub mod Filter
pub mod Keyed
pub mod Prepared
