pub mod NumberLaws
pub mod FitLaws
pub mod ArgumentLaws
pub mod Examples
