pub mod Turns
pub mod Known
pub mod Seen
pub mod KeyedTurns
pub mod KeyedSeen
