pub mod Carried
pub mod Slotted
pub mod Adding
pub mod Written
