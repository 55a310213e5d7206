pub mod ListLaws
pub mod GrowingLaws
