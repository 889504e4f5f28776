pub mod Turns
pub mod Back
