pub mod Runs
pub mod World
pub mod Steps
pub mod Laws
pub mod ProtocolRows
