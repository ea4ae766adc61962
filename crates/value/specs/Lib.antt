pub mod Values
pub mod Operands
