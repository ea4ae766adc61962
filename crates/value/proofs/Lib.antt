mod SameImage
mod Floats
mod Maps
mod Numbers
mod Orders
pub mod Held
pub mod Given
