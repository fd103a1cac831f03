pub mod Loop
pub mod Pump
pub mod Teller
pub mod Represented
