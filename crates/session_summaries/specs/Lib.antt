pub mod Bodies
pub mod Requests
pub mod Told
pub mod Summaries
pub mod Lines
