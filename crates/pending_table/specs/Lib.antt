pub mod Windows
pub mod Places
