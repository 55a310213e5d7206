pub mod KindLaws
pub mod PlainLaws
pub mod WholeLaws
