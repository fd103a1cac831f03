-- What is printed of a schema that was read is read back.
pub mod Sound
pub mod Found
pub mod Enum
pub mod Base
pub mod Columns
pub mod Lists
pub mod Tables
pub mod Whole
pub mod Texts
