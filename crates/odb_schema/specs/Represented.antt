-- What the types of the code stand for.
pub mod Codes
pub mod Names
pub mod Column
pub mod Table
pub mod Schema
pub mod Fault
pub mod Members
pub mod Parts
pub mod Reader
pub mod Sound
