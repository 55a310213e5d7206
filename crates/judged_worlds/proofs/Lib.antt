pub mod CalmPlans
pub mod PathLaws
pub mod HitLaws
