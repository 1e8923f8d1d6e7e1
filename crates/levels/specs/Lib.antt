pub mod Chosen
pub mod Stored
