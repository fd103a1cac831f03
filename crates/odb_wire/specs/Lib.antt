pub mod Message
pub mod Stream
pub mod Kind
pub mod Shown
pub mod Scanning
pub mod Framed
pub mod Feeding
pub mod Standing
