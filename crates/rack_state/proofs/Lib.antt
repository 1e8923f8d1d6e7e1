pub mod Right
pub mod Mirrored
