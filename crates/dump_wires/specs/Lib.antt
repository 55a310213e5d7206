pub mod Desks
pub mod Talking
pub mod Follows
