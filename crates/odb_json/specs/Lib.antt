pub mod ColumnValue
pub mod ConditionNotation
pub mod MutationNotation
pub mod Operation
pub mod Represented
pub mod Suited
pub mod Written
