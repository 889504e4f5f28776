pub mod GoingOn
pub mod Names
mod Resumed
mod SavedFacts
pub mod Stamps
pub mod Telling
pub mod Texts
