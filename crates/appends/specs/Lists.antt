-- A list of entries appended, left to right.
pub mod Joined
pub mod Each
pub mod Kinds
pub mod Entry
pub mod Functions
pub mod Loops
