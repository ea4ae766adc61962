pub mod Rows
pub mod Positions
pub mod Steps
pub mod Calls
pub mod Builds
pub mod Leaves
pub mod Operands
pub mod Options
