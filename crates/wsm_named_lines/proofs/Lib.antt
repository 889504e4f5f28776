pub mod ByNames
pub mod Taught
