pub mod Joining
pub mod ListState
pub mod Recorded
pub mod Search
pub mod Stored
pub mod Table
