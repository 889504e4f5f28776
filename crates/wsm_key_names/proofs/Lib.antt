mod ByNames
pub mod LearnedNames
mod KeyGuesses
mod NameLists
mod NameLines
mod NameCells
mod ReadBack
