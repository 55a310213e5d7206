pub mod Plain
pub mod Printing
pub mod Rows
