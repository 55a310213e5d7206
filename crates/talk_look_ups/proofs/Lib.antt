pub mod AskingLaws
pub mod ClassLaws
pub mod FrameLaws
pub mod PlanLaws
