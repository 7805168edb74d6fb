pub mod Characters
pub mod Numbers
pub mod Labels
pub mod Examples
