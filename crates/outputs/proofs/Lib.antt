pub mod Writing
pub mod OutputTrees
pub mod Carried
pub mod Lookups
