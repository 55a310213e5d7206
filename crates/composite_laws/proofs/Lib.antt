pub mod DealingLaws
pub mod OwedParts
pub mod StruckHands
