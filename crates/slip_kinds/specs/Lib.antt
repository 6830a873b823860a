pub mod Kinds
pub mod Fields
