pub mod Keys
pub mod Unhit
pub mod Represented
