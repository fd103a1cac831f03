pub mod Tables
pub mod Outcomes
pub mod Indexes
pub mod Claims
pub mod Release
