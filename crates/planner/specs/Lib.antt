pub mod Outcomes
pub mod Kinds
pub mod Reads
pub mod Demands
