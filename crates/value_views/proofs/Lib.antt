pub mod NamePairs
pub mod Hexadecimals
pub mod CharLaws
pub mod Lengths
pub mod Digits
pub mod ReadAgain
