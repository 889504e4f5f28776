pub mod Steps
pub mod Sums
pub mod Slices
