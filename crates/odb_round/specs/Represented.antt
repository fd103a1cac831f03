pub mod Codes
pub mod Decided
pub mod Sending
pub mod Served
pub mod Taking
