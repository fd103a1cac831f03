mod Changing
pub mod Crossing
mod Examples
mod Finding
mod Listing
mod Merging
pub mod Undoing
