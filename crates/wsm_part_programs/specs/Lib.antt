pub mod Keyless
pub mod Names
