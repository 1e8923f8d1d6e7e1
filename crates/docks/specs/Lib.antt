pub mod Answers
pub mod Pieces
pub mod Tables
pub mod Views
