pub mod Layout
pub mod Panes
pub mod Place
pub mod RowWords
pub mod Slots
pub mod View
pub mod Walk
pub mod Widths
