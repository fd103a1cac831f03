pub mod Deleted
pub mod Distinct
pub mod Each
pub mod Inserted
pub mod Listed
pub mod Maps
pub mod Results
pub mod Sets
