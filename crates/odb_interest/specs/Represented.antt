-- What the types of the code stand for, and what their calls change.
pub mod Asked
pub mod Key
pub mod SessionsByAtom
pub mod Watched
pub mod SessionsByKey
pub mod Lists
pub mod Found
