pub mod Text
pub mod TextRows
pub mod Seen
