pub mod Texts
pub mod GoingOn
pub mod SavedFacts
pub mod Resumed
