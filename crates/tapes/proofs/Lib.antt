pub mod Parts
pub mod Words
pub mod CarriedTwo
pub mod CarriedThree
pub mod Readings
