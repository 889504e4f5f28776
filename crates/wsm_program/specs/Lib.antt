pub mod Program
pub mod Rows
pub mod Operands
pub mod Opcodes
pub mod Comparisons
pub mod Instructions
pub mod View
pub mod Text
