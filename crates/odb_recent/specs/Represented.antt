-- What the types of the code stand for, and what their calls change.
pub mod Codes
pub mod Merged
pub mod Refused
