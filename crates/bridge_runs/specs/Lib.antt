pub mod Writing
pub mod Recording
pub mod Dumping
pub mod Command
