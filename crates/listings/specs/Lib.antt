pub mod Listings
pub mod Walks
