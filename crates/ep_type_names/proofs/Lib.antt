pub mod TypeWordLemmas
pub mod StarLemmas
