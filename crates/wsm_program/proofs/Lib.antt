pub mod Within
pub mod Numbered
pub mod Opcodes
pub mod Comparisons
pub mod Lawful
pub mod StatedBudget
