pub mod Wrongs
pub mod Digits
pub mod Same
pub mod Sixes
