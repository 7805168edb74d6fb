pub mod Tags
pub mod Tables
pub mod Sites
pub mod Frames
pub mod Tagged
pub mod Listed
