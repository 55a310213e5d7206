pub mod Requests
pub mod Lines
pub mod Answers
pub mod Messages
pub mod Conversing
pub mod Phases
