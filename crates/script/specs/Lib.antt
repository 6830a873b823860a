pub mod Messages
pub mod Names
pub mod Spelling
pub mod Words
