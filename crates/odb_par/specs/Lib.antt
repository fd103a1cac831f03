pub mod Pieces
pub mod Shares
pub mod Workers
