pub mod Unslipping
pub mod Placing
pub mod Reading
pub mod Numbering
pub mod Sealings
pub mod ReadingSlips
pub mod Fairly
