pub mod States
pub mod Calls
pub mod Logs
pub mod Effects
pub mod Laws
pub mod Kinds
pub mod Answers
