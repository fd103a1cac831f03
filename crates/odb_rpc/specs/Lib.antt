pub mod Message
pub mod Represented
pub mod Served
pub mod Since
