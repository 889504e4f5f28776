pub mod State
pub mod Counts
pub mod Meaning
pub mod Turn
pub mod Operator
pub mod Acts
pub mod Engine
pub mod Laws
