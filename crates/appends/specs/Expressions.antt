-- An expression appended to the cells.
pub mod Emit
pub mod Constructors
pub mod Steps
pub mod Option
