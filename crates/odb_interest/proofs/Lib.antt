pub mod Agreeing
pub mod Asking
pub mod Booleans
pub mod Crossing
mod Examples
pub mod Growing
pub mod Levels
pub mod Listed
pub mod Rows
pub mod Touching
pub mod Unselected
