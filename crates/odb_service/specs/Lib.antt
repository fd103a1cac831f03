pub mod History
pub mod Run
pub mod Server
pub mod Service
pub mod Session
pub mod World
pub mod WorldCode
