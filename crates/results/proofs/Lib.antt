pub mod Orders
pub mod Searches
pub mod Tails
pub mod Inserts
pub mod Entering
pub mod Adding
pub mod Nonzero
pub mod Filling
