pub mod Merged
pub mod Names
pub mod OpenedLate
pub mod Parts
pub mod PartRows
pub mod TakenAlone
