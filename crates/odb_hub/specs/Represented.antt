pub mod Ends
pub mod Happened
pub mod Inbox
pub mod Mailbox
pub mod Rings
pub mod Submission
