pub mod StateLaws
pub mod OverLaws
pub mod HeardLaws
pub mod SendLaws
pub mod TieLaws
pub mod KeptLaws
mod Examples
