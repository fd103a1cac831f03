-- What the outcomes of the code stand for.
pub mod Outcome
