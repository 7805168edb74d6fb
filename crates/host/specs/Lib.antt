pub mod Checking
pub mod Writing
pub mod Examples
