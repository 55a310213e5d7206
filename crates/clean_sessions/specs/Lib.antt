pub mod Client
pub mod Endings
pub mod Laws
pub mod Needed
pub mod Premises
pub mod Target
