pub mod ClientLaws
pub mod EndingLaws
pub mod LoneParts
pub mod NeededPremises
pub mod TargetLaws
pub mod WholeLaws
