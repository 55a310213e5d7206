pub mod Asking
pub mod Needs
pub mod Shown
pub mod Slots
