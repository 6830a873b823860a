pub mod Bytewise
pub mod Writes
pub mod Numbers
pub mod Tables
pub mod Made
pub mod Counts
pub mod Spelt
