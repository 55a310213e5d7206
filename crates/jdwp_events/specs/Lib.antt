pub mod Kinds
pub mod Events
pub mod Modifiers
pub mod Composites
