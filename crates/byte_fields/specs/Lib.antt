pub mod Taking
pub mod Putting
pub mod Again
pub mod Writers
