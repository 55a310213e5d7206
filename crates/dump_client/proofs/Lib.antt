pub mod MessageLaws
pub mod RequestLaws
pub mod PhaseLaws
mod Examples
