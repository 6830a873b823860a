pub mod Meaning
pub mod Calls
