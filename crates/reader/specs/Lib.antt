pub mod Walk
pub mod Reader
pub mod Order
pub mod Nodes
pub mod Lists
pub mod Walked
pub mod Parts
pub mod Whole
