pub mod SourceMarks
pub mod FittedHistory
pub mod Taken
