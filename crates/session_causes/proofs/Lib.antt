pub mod Acts
pub mod Deciding
pub mod Memory
pub mod Outside
pub mod Sides
pub mod Troubles
pub mod Verdicts
