pub mod Runs
pub mod Logged
