pub mod Chains
pub mod Entries
pub mod Memory
pub mod MemoryRows
pub mod Late
pub mod Passing
pub mod PassingRows
