pub mod Sealing
pub mod Slips
