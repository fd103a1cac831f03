pub mod DrainAll
mod Identifiers
mod AppendedParts
mod HeldSessions
mod LineStep
mod Lines
mod NumberedSessions
mod OpenedSessions
mod OwedDrains
mod NamePlaces
mod Numbers
mod ScriptRuns
mod ServerInScript
mod ByteSplits
mod CommandSteps
mod ReceivedBytes
pub mod DrainOne
