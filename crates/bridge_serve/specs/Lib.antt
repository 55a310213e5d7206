pub mod Names
pub mod Serving
pub mod Following
