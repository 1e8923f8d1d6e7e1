pub mod Outputs
pub mod Computed
pub mod Held
