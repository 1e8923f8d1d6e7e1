pub mod Views
pub mod Areas
