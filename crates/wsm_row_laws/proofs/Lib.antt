pub mod NumberTexts
pub mod PlainTexts
pub mod ReadRows
pub mod SameTurns
pub mod Sayable
pub mod BoundSources
pub mod Delivering
pub mod ClockedSources
mod LineRows
mod GoingRows
mod FedRows
