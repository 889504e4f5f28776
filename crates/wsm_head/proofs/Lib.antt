pub mod Following
pub mod NeededStand
pub mod Turning
