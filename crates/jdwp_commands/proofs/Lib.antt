pub mod ListedLaws
pub mod MeaningLaws
pub mod RegionLaws
pub mod ItemLaws
pub mod BodyLaws
pub mod KindLaws
pub mod CommandLaws
pub mod AnswerLaws
