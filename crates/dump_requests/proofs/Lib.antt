pub mod AskLaws
pub mod BoundLaws
pub mod HearLaws
mod Examples
