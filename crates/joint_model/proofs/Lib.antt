pub mod BalanceLaws
pub mod ErrorLaws
pub mod FlightLaws
pub mod HandLaws
pub mod HeldLaws
mod JointExample
pub mod LookedFirst
pub mod LookUpLaws
pub mod RestLaws
pub mod ServedLaws
pub mod StillLaws
