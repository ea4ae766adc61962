-- The whole plan is read back from its numbers.
pub mod Readings
pub mod ReadArea
pub mod ReadingLaws
pub mod Readable
pub mod AreaReadsBack
pub mod ReadPlan
pub mod PlanReadsBack
pub mod NodeTree
pub mod AreaExit
pub mod Proper
pub mod ProperPlan
pub mod Accepted
pub mod PlanReadable
pub mod AreaDemand
