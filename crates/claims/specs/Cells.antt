-- The shared cells: unfolded they are the Rust's tree; which are reached, in which order, and which are shared.
pub mod Numbers
pub mod Length
pub mod Unfold
pub mod UnfoldPlan
pub mod Roots
pub mod Operands
pub mod Comparisons
pub mod Blocks
pub mod Order
pub mod Reach
pub mod Pairs
pub mod Sharing
