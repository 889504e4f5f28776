pub mod KeylessRuns
pub mod Law
