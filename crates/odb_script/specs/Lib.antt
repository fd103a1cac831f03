pub mod Represented
pub mod Running
pub mod Script
