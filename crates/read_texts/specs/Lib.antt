pub mod Line
pub mod Short
