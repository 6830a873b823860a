pub mod Commands
pub mod Nonces
pub mod Shelves
pub mod Spelling
