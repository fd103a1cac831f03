pub mod Outcomes
pub mod Sound
pub mod Typed
pub mod Versions
