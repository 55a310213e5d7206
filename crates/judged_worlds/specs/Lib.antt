pub mod PathRows
pub mod HitRows
pub mod Laws
