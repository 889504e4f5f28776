pub mod Interval
pub mod Arithmetic
pub mod Comparison
pub mod Narrowing
pub mod Vectors
pub mod NarrowingVectors
