pub mod Represented
