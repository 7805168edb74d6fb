pub mod Rows
pub mod Enters
pub mod Inventories
