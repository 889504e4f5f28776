pub mod Trying
pub mod Turning
pub mod Places
pub mod Vectors
pub mod TestVectors
pub mod PlaceVectors
