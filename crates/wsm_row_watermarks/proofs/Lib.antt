pub mod Cells
pub mod Texts
pub mod Hearing
pub mod Counting
pub mod Turning
pub mod LinesTaken
pub mod HeaderTimes
pub mod SpeltNames
