-- How many cells and node numbers are appended, accepted or refused, and that there is room for them at each step.
pub mod Written
pub mod Entries
pub mod Select
pub mod From
pub mod Statements
pub mod Stages
pub mod Clauses
pub mod Records
