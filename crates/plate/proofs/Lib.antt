pub mod Marks
pub mod Putting
pub mod Ranges
pub mod Filling
