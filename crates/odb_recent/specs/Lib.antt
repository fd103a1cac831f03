pub mod Undo
pub mod Recent
pub mod Findable
pub mod Represented
