-- What building keeps: the values and names of a plan have what those of its statement and catalog have.
pub mod Built
pub mod FromClause
pub mod Has
pub mod Expressions
pub mod From
pub mod Groups
pub mod Select
pub mod Positions
pub mod Statements
