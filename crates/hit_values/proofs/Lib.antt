pub mod CaughtNeeds
pub mod EachPieces
pub mod Firing
