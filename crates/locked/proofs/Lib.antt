pub mod Parts
pub mod Holding
