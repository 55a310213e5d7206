pub mod FitLaws
pub mod FollowLaws
pub mod OverLaws
