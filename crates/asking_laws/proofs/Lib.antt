pub mod Asking
pub mod Hearing
pub mod Lacking
pub mod Learning
pub mod Once
pub mod Refusals
