pub mod LengthLaws
pub mod ReadLaws
mod Examples
