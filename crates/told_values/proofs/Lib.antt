pub mod GoodLaws
pub mod TellableLaws
