pub mod Execution
pub mod Represented
