pub mod TurnLemmas
pub mod SavedLemmas
pub mod KeyedLemmas
