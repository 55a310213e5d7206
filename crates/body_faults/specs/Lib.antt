pub mod Layouts
pub mod Wrongs
