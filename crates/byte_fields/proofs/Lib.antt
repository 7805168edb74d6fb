pub mod Overs
pub mod Back
pub mod Forth
