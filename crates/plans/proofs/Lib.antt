pub mod Orders
pub mod Entries
pub mod Numbers
pub mod Compares
pub mod Sizings
pub mod Passes
pub mod Refusals
