pub mod NameRows
pub mod RunRows
