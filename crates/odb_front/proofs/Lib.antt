pub mod Lists
pub mod Schemas
