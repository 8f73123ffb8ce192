pub mod SimpleLemmas
pub mod PieceLemmas
