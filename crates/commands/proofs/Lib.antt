mod Operands
pub mod Kept
