-- What holds of the code's atoms and values.
pub mod Atoms
pub mod Values
pub mod Entries
pub mod Orders
pub mod Types
pub mod Undone
pub mod Merged
