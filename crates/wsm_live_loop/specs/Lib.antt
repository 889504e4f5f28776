pub mod Cuts
pub mod Sinks
