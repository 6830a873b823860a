pub mod Masks
pub mod Places
pub mod Quads
pub mod Columns
pub mod Halves
pub mod Loading
pub mod Schedules
