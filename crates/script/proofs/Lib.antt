mod Texts
mod Unspelt
pub mod Named
