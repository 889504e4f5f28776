pub mod Stamps
pub mod Going
pub mod Remembering
