-- What every made area keeps, beyond being laid out so that it can be read back (docs/PLAN.md, "How a reader checks the form").
pub mod Occurrences
pub mod Targets
pub mod Sources
pub mod Kept
