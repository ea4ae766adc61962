pub mod Functions
pub mod Entries
pub mod Kinds
pub mod Nodes
