pub mod Entering
pub mod Ring
pub mod RingState
pub mod RingTable
