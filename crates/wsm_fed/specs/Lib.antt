pub mod Fed
pub mod FedRows
pub mod Seen
pub mod Written
