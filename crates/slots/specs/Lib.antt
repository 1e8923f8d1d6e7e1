pub mod Records
pub mod Layouts
pub mod Areas
