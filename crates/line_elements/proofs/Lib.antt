pub mod AgainLaws
pub mod BitLaws
mod Examples
pub mod NumberLaws
pub mod PartLaws
