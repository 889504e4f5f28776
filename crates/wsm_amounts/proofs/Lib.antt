pub mod Whole
pub mod Sums
pub mod Written
pub mod Dropped
pub mod WholePanes
pub mod Companion
pub mod ShownRecords
pub mod AssignedAmounts
pub mod SessionAmounts
pub mod Law
pub mod LastRows
pub mod Rises
mod RetractingPanes
