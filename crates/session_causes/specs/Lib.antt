pub mod Deciding
pub mod Laws
pub mod Memory
pub mod Outside
