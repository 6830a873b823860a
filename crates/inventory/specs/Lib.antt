pub mod Inventory
pub mod Reports
