pub mod SaidRows
pub mod SameRuns
pub mod Delivered
pub mod Fed
