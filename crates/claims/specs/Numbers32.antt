-- Every number of an accepted plan is below 2 ^ 32.
pub mod Cells
pub mod Nodes
pub mod Widths
pub mod Own
pub mod Plan
