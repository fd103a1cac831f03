pub mod Chains
pub mod Marks
pub mod OldRows
pub mod Represented
pub mod Segments
