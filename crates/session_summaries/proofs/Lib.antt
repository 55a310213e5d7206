pub mod BodyLaws
pub mod TellLaws
pub mod RunLaws
