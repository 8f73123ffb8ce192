pub mod WalkLemmas
pub mod MentionLemmas
pub mod Halts
pub mod FieldLemmas
