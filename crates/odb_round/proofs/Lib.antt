mod Again
mod Aheads
mod Composed
mod Decisions
pub mod Finished
mod FirstTexts
mod JobTexts
mod Known
mod Leading
mod Likenesses
mod NamedCommits
mod OneSchema
mod Pendings
mod Places
mod PlannedTexts
pub mod Plans
mod Quiet
mod Rests
mod Rounds
mod Served
mod SharedPlaces
mod Updates
mod Ways
