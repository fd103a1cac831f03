pub mod Command
pub mod Draining
pub mod Latch
pub mod Names
pub mod Run
pub mod Steps
