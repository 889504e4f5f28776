pub mod Live
pub mod Placing
pub mod Classes
pub mod Vectors
