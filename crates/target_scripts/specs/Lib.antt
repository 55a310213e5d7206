pub mod Judging
pub mod Adding
pub mod Chains
pub mod Fit
