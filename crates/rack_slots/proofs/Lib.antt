pub mod Parts
pub mod Bounds
pub mod Filled
pub mod Frames
pub mod Stores
