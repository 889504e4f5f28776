pub mod Name
pub mod Schema
pub mod Event
pub mod Fields
pub mod Guesses
pub mod Types
pub mod Modes
