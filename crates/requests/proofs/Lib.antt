pub mod Passed
pub mod Sent
pub mod Back
pub mod Forth
pub mod Lengths
pub mod Outlines
pub mod Masks
