pub mod Behind
pub mod Counts
pub mod FedAll
pub mod FirstLines
pub mod Headings
pub mod NeededEvents
pub mod Restored
pub mod SavedFacts
