pub mod Triggers
pub mod Vectors
