pub mod Names
pub mod NameRows
pub mod Text
pub mod Cell
pub mod Guesses
pub mod Reading
