mod Tellers
mod Agreed
mod Boards
pub mod Marks
mod Tolerance
mod Plain
pub mod Served
mod LastStamps
mod Tables
pub mod KeptRows
pub mod Letting
mod InTime
