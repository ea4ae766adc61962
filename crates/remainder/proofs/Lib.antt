pub mod Steps
pub mod Numbers
pub mod Floats
pub mod Signs
pub mod Sizes
