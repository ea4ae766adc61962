pub mod Sets
pub mod Writes
pub mod SoFar
pub mod Updates
