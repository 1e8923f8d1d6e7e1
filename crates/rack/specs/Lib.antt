pub mod Courses
pub mod Events
pub mod Racks
pub mod Runs
