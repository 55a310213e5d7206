pub mod Things
pub mod Numbers
pub mod Starts
pub mod Sessions
