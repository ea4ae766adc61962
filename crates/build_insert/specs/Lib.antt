pub mod Map
pub mod Lists
pub mod Values
pub mod Rows
pub mod Own
pub mod Inserts
