pub mod Fronts
pub mod Grammar
pub mod Judging
pub mod Laws
pub mod Parsing
pub mod Rendering
