pub mod Client
pub mod Headline
pub mod Kinds
pub mod Law
pub mod Named
pub mod Replies
pub mod Rings
pub mod Sent
