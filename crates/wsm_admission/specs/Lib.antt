pub mod Clock
pub mod Admission
