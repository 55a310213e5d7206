pub mod ArgLaws
pub mod WordLaws
pub mod NumberLaws
