pub mod Answers
pub mod Hands
pub mod Calls
pub mod Door
pub mod Machine
