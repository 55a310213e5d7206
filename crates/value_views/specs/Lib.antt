pub mod Names
pub mod Quotes
pub mod Chars
pub mod Reads
pub mod Texts
pub mod Written
