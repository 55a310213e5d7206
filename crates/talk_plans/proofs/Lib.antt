pub mod DueLaws
pub mod ReplyLaws
pub mod TalkLaws
