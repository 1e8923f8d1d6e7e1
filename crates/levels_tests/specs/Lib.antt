pub mod Mirrors
pub mod Backwards
