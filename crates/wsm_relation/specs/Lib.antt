pub mod Rows
pub mod Bag
pub mod Words
pub mod Delta
pub mod Memory
pub mod Kept
pub mod Reserved
