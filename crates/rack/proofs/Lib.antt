pub mod Shown
pub mod Kept
pub mod Performing
