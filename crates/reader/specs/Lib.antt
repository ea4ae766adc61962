pub mod Texts
pub mod Entry
pub mod Reading
pub mod Cases
pub mod Within
