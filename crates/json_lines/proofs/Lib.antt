pub mod TextLaws
pub mod TokenLaws
pub mod SpelledLaws
pub mod AgainLaws
