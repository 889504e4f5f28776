pub mod RowLemmas
pub mod ToldLemmas
pub mod RunLemmas
pub mod HeadLemmas
pub mod LiveLemmas
pub mod ProtocolLemmas
