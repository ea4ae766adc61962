pub mod Spans
pub mod Readers
