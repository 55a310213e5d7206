pub mod States
pub mod Books
pub mod Recording
pub mod Ties
