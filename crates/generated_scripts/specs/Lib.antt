pub mod Numbers
pub mod Worlds
pub mod Turns
pub mod Generated
