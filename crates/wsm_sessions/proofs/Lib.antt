pub mod Ended
pub mod Seams
pub mod SessionEdits
pub mod Classes
