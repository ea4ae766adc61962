-- Which refusals are possible where, and that each test of a limit refuses only what passes it.
pub mod Refuses
pub mod Expressions
pub mod Statements
pub mod Select
pub mod Reading
pub mod Texts
pub mod Entry
pub mod Qualified
pub mod FromLimits
pub mod Limits
pub mod Arises
