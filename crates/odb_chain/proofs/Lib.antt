mod Absorbed
mod Between
mod Contents
mod Counts
mod Histories
mod Keeps
mod Lasts
mod MarkedVersions
mod Numbers
mod Recorded
mod Shown
pub mod Undoing
mod Views
