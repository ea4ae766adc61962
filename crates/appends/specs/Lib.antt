-- What each step of building appends to the plan's cells and node records: laws of the rules alone.
pub mod Answers
pub mod Expressions
pub mod Lists
pub mod Nodes
pub mod Area
pub mod From
pub mod Select
pub mod Statements
pub mod Scopes
pub mod Room
