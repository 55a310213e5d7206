pub mod RequestLaws
pub mod WeightLaws
pub mod PlayLaws
pub mod WireLaws
pub mod WaitLaws
pub mod CourseLaws
pub mod PlayedLaws
