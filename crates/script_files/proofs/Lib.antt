pub mod CutLaws
pub mod LineLaws
pub mod ReadLaws
pub mod SizeLaws
