pub mod Answered
pub mod Asked
mod Examples
pub mod InsertCounts
pub mod LeftOut
pub mod Objects
pub mod Requests
mod Resuming
pub mod Texts
