pub mod Names
pub mod Forms
pub mod Parts
pub mod Questions
pub mod Rows
pub mod Reading
pub mod Texts
pub mod Sayable
