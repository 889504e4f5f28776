pub mod LogText
pub mod FirstLine
pub mod Counts
pub mod Needed
pub mod Standing
