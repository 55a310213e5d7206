pub mod Choices
pub mod Worlds
