pub mod Answers
pub mod Constants
pub mod Numbers
