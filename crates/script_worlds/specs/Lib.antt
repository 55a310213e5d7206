pub mod Given
pub mod Shapes
pub mod Known
pub mod Growing
