pub mod Coming
pub mod Lines
pub mod Steps
pub mod Ended
pub mod Turn
pub mod Words
