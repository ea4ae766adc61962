-- The other statements, appended.
pub mod Delete
pub mod Insert
pub mod Update
pub mod Create
