pub mod Hands
pub mod Slips
