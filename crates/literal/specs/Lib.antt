pub mod Integers
pub mod Floats
pub mod Records
