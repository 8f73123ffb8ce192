pub mod PassingLemmas
pub mod StoreLemmas
