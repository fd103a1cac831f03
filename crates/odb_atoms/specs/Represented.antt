-- What the types of the code stand for.
pub mod Atom
pub mod AtomOrder
pub mod Entry
pub mod Error
pub mod Value
pub mod Refused
pub mod ValueOrder
pub mod ColType
pub mod Enumeration
pub mod Row
pub mod TextMap
