-- The count of a SELECT's cells, from statement and catalog, and its bound.
pub mod Totals
pub mod Sums
pub mod Costs
pub mod Within
pub mod Stars
pub mod Select
pub mod Hidden
pub mod Arguments
pub mod Uses
pub mod Items
pub mod Clauses
pub mod Bound
pub mod Statements
