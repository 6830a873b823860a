pub mod Nibbles
pub mod Parts
