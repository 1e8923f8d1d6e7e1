pub mod Tallies
pub mod Listings
pub mod Places
pub mod Layouts
pub mod Turns
