pub mod KeyedLines
pub mod Declared
pub mod More
pub mod ByNames
mod Numbers
