pub mod Targets
pub mod Lines
pub mod Played
