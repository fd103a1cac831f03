pub mod Represented
pub mod Sound
pub mod Transaction
