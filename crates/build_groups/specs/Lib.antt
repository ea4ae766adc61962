pub mod Rows
pub mod Collects
pub mod Aggregates
pub mod Terms
pub mod Stages
