-- Document 01's order: a SELECT's plan has the expressions that statement and catalog give, in that order.
pub mod Builds
pub mod From
pub mod Select
