pub mod Windows
pub mod Limits
pub mod Places
pub mod PlaceOrder
pub mod Life
pub mod Left
pub mod Vectors
