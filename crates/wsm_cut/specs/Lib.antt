pub mod Judge
pub mod Cutter
