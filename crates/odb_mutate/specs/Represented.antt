-- What the types of the code stand for.
pub mod Kinds
pub mod Mutation
