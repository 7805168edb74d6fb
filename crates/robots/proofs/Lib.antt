pub mod Acts
pub mod Makings
pub mod Conserving
