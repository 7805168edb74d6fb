pub mod Order
pub mod Queue
