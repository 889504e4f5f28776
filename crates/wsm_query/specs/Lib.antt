pub mod Tree
pub mod Seen
pub mod Adds
pub mod Grammar
pub mod Steps
pub mod Parse
pub mod Print
pub mod Vectors
