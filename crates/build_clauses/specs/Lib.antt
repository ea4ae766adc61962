pub mod Follows
pub mod Filters
pub mod Keys
pub mod Orders
pub mod Rows
pub mod Remaps
