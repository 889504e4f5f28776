pub mod Counted
pub mod CountedRows
pub mod Seen
