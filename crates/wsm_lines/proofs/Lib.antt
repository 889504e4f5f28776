pub mod TableLemmas
pub mod FaultLemmas
pub mod KeptLemmas
pub mod FirstLemmas
pub mod IdentifierLemmas
pub mod SiftedLemmas
pub mod PassingLemmas
pub mod FilterLemmas
