pub mod PartLaws
pub mod LineLaws
pub mod CutLaws
pub mod PlainLaws
pub mod AgainLaws
mod Examples
