pub mod Staying
pub mod Tells
pub mod Turns
pub mod GoesOn
pub mod Resuming
pub mod Saved
pub mod Run
