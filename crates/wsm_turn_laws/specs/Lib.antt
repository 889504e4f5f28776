pub mod Delivered
pub mod DeliveredRows
