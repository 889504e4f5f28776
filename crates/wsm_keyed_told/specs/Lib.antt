pub mod KeyedLines
pub mod Resuming
pub mod Staying
pub mod Tells
