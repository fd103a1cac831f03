pub mod Gained
pub mod References
pub mod Represented
pub mod Settled
pub mod Settlement
pub mod Steps
pub mod Touched
