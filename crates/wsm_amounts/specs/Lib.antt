pub mod Whole
pub mod Retracted
pub mod LastRows
pub mod AmountRows
pub mod Rises
pub mod RiseRows
