pub mod SameKinds
pub mod AtPlace
pub mod InTurn
pub mod LeftToFire
pub mod Walk
pub mod Behind
pub mod InOrder
pub mod Triggered
pub mod Headers
pub mod FireRuns
pub mod Entered
pub mod StreamRows
pub mod Spots
pub mod StandingRows
pub mod Ready
pub mod RowsAfterRecord
pub mod Past
pub mod Jumps
pub mod WatermarkWalk
pub mod RowsByMode
pub mod ByKind
mod ByPlace
mod RetractPlaces
mod RetractWalk
mod RetractAt
mod RetractJoined
