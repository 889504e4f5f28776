pub mod Text
pub mod Positions
pub mod Decimals
pub mod ReadBack
pub mod Proper
