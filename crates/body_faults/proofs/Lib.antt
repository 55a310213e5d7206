pub mod RangeLaws
pub mod CauseLaws
pub mod FollowLaws
pub mod WrongLaws
pub mod FaultLaws
pub mod ShortLaws
