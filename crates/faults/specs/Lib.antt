pub mod Causes
pub mod Tables
pub mod Words
