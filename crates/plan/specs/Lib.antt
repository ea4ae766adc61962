-- The plan in the area: how its numbers are appended, and the area at exit.
pub mod Layout
pub mod Kinds
pub mod Places
pub mod Appended
pub mod Pushed
pub mod Records
pub mod Parts
pub mod Own
pub mod Finished
pub mod Exit
pub mod Room
pub mod Cells
pub mod Literals
pub mod Emits
pub mod Steps
