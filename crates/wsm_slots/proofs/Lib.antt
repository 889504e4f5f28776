pub mod Entry
pub mod Keys
pub mod Laid
pub mod Order
pub mod Written
