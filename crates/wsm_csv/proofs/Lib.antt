pub mod NumberLemmas
pub mod RowsLemmas
pub mod Written
pub mod CellLemmas
pub mod LineLemmas
pub mod WordLemmas
pub mod KeyedLemmas
pub mod TurnLines
