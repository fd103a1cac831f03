-- What the types of the code stand for.
pub mod Fault
pub mod Names
pub mod Operation
pub mod Parts
pub mod Row
