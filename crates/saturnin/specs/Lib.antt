pub mod Bits
pub mod Cube
pub mod Layers
pub mod Shifts
pub mod Rounds
pub mod Schedules
pub mod Back
pub mod TwoRounds
