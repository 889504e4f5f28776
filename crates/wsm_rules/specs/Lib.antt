pub mod Costs
pub mod Labels
pub mod Rules
pub mod Accumulated
pub mod Text
pub mod SelectsAll
