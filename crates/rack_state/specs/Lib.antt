pub mod Faults
pub mod Snapshots
pub mod Mirrors
pub mod Does
pub mod Making
pub mod Answered
pub mod Busy
