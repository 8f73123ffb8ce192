pub mod NameLemmas
pub mod FirstLemmas
pub mod PassLemmas
pub mod MeasuredLemmas
pub mod SequenceLemmas
pub mod BracketLemmas
