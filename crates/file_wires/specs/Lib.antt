pub mod Course
pub mod LogWires
pub mod Replaying
pub mod PlayedWires
