pub mod Listings
pub mod Graphs
