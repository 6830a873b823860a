pub mod Bytes
pub mod Chains
pub mod Hash
pub mod Counters
pub mod Cascade
pub mod Exact
pub mod Short
