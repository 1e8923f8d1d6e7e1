pub mod Fillings
pub mod Planned
pub mod Stored
pub mod Lookups
