pub mod Sides
pub mod Scripts
pub mod Sessions
pub mod Laws
