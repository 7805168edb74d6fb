pub mod Responses
pub mod Entries
pub mod Inventories
pub mod Writing
pub mod Reading
pub mod RoundTrips
pub mod Examples
