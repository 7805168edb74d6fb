pub mod Search
pub mod Slips
pub mod Movement
