pub mod Access
pub mod AccessRows
pub mod Seen
pub mod Csv
pub mod CsvRows
pub mod Spans
