pub mod Placings
pub mod Readings
pub mod Tellings
