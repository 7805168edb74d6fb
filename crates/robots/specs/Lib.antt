pub mod Meaning
pub mod Acts
pub mod Cartridges
pub mod Making
pub mod Performing
pub mod Equal
