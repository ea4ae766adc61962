-- FROM, appended.
pub mod Laid
pub mod Merge
pub mod Sides
pub mod Clause
