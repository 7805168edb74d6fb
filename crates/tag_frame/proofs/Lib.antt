pub mod Filling
pub mod Fitted
