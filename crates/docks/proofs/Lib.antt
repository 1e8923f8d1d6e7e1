pub mod Bests
pub mod Cuts
pub mod Holds
pub mod Meanings
pub mod Names
pub mod Rows
pub mod Sofar
