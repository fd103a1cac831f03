pub mod Chain
pub mod Codes
pub mod Log
pub mod MarkedVersions
