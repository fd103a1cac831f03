pub mod Json
pub mod Notation
pub mod Represented
pub mod Schema
pub mod SchemaText
pub mod JsonCode
