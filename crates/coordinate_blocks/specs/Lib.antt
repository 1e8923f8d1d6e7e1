pub mod Blocks
pub mod Scans
