pub mod Adds
pub mod AnySchema
pub mod AsRead
mod Books
mod Brought
mod Carried
mod CarriedOut
mod Copies
pub mod Counted
pub mod Crossing
mod Earlier
mod Endings
mod Firsts
mod InTurn
mod Interests
mod KeptTexts
mod Keyed
mod Lent
pub mod Loops
mod Moved
mod Moves
pub mod NamedReplays
mod Newest
mod Numbers
pub mod Options
pub mod OtherFilters
mod OwedSessions
pub mod Posts
pub mod Quiet
mod QuietSessions
mod Refreshed
pub mod Releases
pub mod Replays
mod Room
mod Seen
mod Silent
mod Stands
mod Steps
mod StillQuiet
mod Stops
mod Sums
mod TakenFilters
mod Theirs
pub mod Ties
mod Untouched
mod Used
mod WatchBounds
mod WatchNumbers
mod WatchTies
mod Watches
