pub mod FedLemmas
pub mod WrittenLemmas
