pub mod DueLaws
pub mod SayLaws
pub mod TakeLaws
