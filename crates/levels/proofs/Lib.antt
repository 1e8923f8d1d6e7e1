pub mod Asks
pub mod Halves
