pub mod Keys
pub mod Tables
pub mod Padding
pub mod Held
