pub mod Chunked
pub mod Parts
pub mod Lasts
