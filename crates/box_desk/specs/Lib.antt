pub mod Digits
pub mod Hands
pub mod Makings
pub mod Slips
