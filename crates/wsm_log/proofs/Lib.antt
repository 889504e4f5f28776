pub mod LinesLemmas
pub mod BufferLemmas
pub mod Following
