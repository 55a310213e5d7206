pub mod Fronts
pub mod Spans
pub mod Tails
pub mod HopBreaks
pub mod ReadSoFar
pub mod Wholes
pub mod Answering
pub mod Parsed
mod Examples
