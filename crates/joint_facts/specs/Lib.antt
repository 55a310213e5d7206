pub mod Arrivals
pub mod Facts
pub mod Laws
