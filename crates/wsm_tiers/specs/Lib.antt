pub mod Listed
pub mod Tiers
pub mod Near
