pub mod Lines
pub mod Locks
pub mod Printed
pub mod Shelves
