-- The numbers of every accepted plan fit in the area's least length.
pub mod Nodes
pub mod From
pub mod Select
pub mod Statements
