pub mod Extents
pub mod Booked
pub mod Loads
pub mod Outcomes
