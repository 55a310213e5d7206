pub mod Cores
pub mod Names
pub mod Saying
pub mod Taking
