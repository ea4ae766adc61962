pub mod Lone
pub mod Labels
pub mod Names
pub mod Ready
pub mod Projected
pub mod Hidden
pub mod Widens
pub mod Whole
