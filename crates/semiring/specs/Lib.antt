pub mod Kinds
pub mod Rows
pub mod Laws
pub mod Words
