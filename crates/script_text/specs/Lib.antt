pub mod Order
pub mod Orderly
pub mod Reading
pub mod Rows
pub mod Spelled
pub mod Texts
