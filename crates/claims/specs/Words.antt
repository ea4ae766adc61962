-- Every word of what is read, and of an accepted plan, stands in its text at its address.
pub mod Places
pub mod Lists
pub mod Parts
pub mod Lines
pub mod Placed
pub mod PlacedPlan
pub mod Ends
pub mod Within
