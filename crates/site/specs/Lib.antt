pub mod Hearing
pub mod Cartridges
pub mod Inventories
pub mod Turns
pub mod Catalogues
pub mod Law
pub mod Examples
