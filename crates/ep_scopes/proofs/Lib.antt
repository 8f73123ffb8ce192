pub mod ScopeLemmas
pub mod KnownLemmas
pub mod WordLemmas
pub mod Coming
mod PointerLemmas
mod FieldLemmas
mod MarkLemmas
