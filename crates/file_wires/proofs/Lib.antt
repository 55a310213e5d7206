pub mod CourseLaws
pub mod FollowLaws
pub mod PlayedLaws
