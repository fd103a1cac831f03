pub mod Call
pub mod Failure
pub mod Monitor
pub mod Printable
pub mod Shared
pub mod Texts
pub mod Since
