pub mod Refusals
pub mod Filing
pub mod Holding
pub mod Models
pub mod Moves
pub mod Starts
