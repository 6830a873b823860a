pub mod Plates
pub mod Neighbours
