pub mod Objects
pub mod InOrder
pub mod Monitored
pub mod Shown
pub mod Apart
pub mod Tables
