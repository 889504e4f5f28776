pub mod Keyed
pub mod Written
pub mod Turns
pub mod Places
