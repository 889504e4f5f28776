pub mod Laws
pub mod Lawful
pub mod Fold
pub mod Accumulators
pub mod Vectors
