pub mod Asking
pub mod Clauses
pub mod Endings
pub mod Fronts
pub mod Laws
pub mod Readings
pub mod Verdicts
