pub mod Represented
pub mod Request
pub mod Requests
