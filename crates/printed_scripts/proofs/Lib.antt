pub mod RowLaws
pub mod OrderLaws
pub mod ReadLaws
pub mod AgainLaws
pub mod BitTexts
pub mod TextLaws
