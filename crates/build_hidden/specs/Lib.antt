pub mod Terms
pub mod Visits
pub mod Rows
pub mod Later
pub mod Lacking
pub mod Hide
pub mod Whole
