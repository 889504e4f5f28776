mod Counts
mod Fed
pub mod EngineTurns
pub mod Within
pub mod RecordsByPlan
pub mod Limits
pub mod HeldByHistory
pub mod RecordRoom
pub mod Inside
pub mod Firings
pub mod OperatorEvents
pub mod Actions
pub mod StatedCosts
pub mod Told
mod Ignoring
pub mod LongestRuns
pub mod AccumulatorLaws
pub mod DiscardingPanes
