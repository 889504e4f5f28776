mod LastEnds
pub mod Linked
pub mod Left
pub mod Spots
pub mod Walk
pub mod Forgotten
mod Numbers
mod Followed
