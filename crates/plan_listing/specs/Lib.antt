pub mod Numbers
pub mod Shown
