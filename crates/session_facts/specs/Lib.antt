pub mod ClassPlanning
pub mod Effects
pub mod Numbering
pub mod OpenClasses
pub mod Sizes
