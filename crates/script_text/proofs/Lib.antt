pub mod AgainLaws
pub mod CutLaws
mod Examples
pub mod LineLaws
pub mod OrderLaws
pub mod RowLaws
pub mod ShownLaws
pub mod SpelledLaws
