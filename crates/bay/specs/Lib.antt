pub mod Numbered
pub mod Bays
pub mod Stored
