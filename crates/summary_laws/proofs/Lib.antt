pub mod MessageLaws
pub mod SentLaws
pub mod HeardLaws
pub mod SummedLaws
