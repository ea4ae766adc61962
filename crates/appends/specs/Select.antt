-- SELECT, appended: its stages one behind the other.
pub mod Items
pub mod Filters
pub mod Groups
pub mod Projection
pub mod Rows
pub mod Stages
