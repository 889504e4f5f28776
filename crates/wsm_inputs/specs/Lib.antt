pub mod Ends
pub mod Judged
pub mod TextOf
pub mod Vectors
pub mod Begun
pub mod Verdict
pub mod Inputs
pub mod Stated
