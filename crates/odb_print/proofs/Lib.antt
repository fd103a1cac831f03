pub mod Loops
pub mod Tokens
