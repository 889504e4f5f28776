pub mod RowTexts
mod PartTexts
mod Goals
mod Outcomes
pub mod FirstRows
mod Shared
mod Lists
mod EachPart
mod DealtRows
mod ReadBack
mod KeysOf
mod BlockNumbers
mod PartRuns
mod DistinctKeys
mod KeysTexts
mod KeyGuesses
mod KeyLines
mod KeyNames
mod Blocks
