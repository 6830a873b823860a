pub mod Boxes
pub mod Returned
pub mod Viewings
