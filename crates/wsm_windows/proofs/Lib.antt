pub mod Multiples
pub mod PeriodicWindows
pub mod Laws
pub mod Members
pub mod Bounds
pub mod Places
pub mod LiveWindows
