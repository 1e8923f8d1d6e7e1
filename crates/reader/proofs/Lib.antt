pub mod Having
pub mod Ordered
pub mod Walks
pub mod Fails
pub mod Names
pub mod Parts
pub mod Wholes
pub mod Views
