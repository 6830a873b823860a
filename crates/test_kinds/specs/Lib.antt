pub mod Remakes
pub mod Numbers
