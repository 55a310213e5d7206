pub mod HearLaws
pub mod PickLaws
