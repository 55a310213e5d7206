pub mod RuleLaws
pub mod OwnerLaws
pub mod TheirLaws
pub mod OwnLaws
pub mod CountLaws
pub mod GreetLaws
pub mod QuestionLaws
pub mod ReadLaws
pub mod EndLaws
pub mod FitLaws
mod Examples
