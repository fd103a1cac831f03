pub mod Mutation
pub mod Represented
pub mod MutationTyping
