pub mod PlaceLaws
pub mod WindowLaws
pub mod TableLaws
