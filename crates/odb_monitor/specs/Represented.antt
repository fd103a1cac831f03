-- What the types of the code stand for.
pub mod Bare
pub mod Candidates
pub mod Form
pub mod Joining
pub mod Layout
pub mod Line
pub mod Listing
pub mod Members
pub mod Part
pub mod Search
pub mod Seeking
pub mod Sides
pub mod Sought
