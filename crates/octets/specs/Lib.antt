pub mod Octets
pub mod Lists
