pub mod Causes
pub mod Faults
pub mod LastWords
pub mod Names
pub mod Saying
pub mod Session
pub mod States
