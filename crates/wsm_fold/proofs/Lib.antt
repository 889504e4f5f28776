pub mod Bags
pub mod Rows
pub mod Columns
