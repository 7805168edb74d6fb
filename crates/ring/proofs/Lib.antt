pub mod Slots
pub mod Partly
pub mod Loops
