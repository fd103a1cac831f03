-- What the types of the code stand for.
pub mod Change
pub mod Codes
pub mod Notation
pub mod Parts
pub mod Request
pub mod Select
pub mod Shape
