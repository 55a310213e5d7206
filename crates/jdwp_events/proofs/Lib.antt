pub mod KindLaws
pub mod EventLaws
pub mod ModifierLaws
pub mod CompositeLaws
