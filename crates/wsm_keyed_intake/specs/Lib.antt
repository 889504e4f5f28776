pub mod GoesOn
pub mod KeyedLog
pub mod Turns
pub mod Run
pub mod Saved
pub mod Stops
