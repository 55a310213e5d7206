pub mod Asking
pub mod FramePlanning
pub mod Planning
