pub mod TypeLemmas
pub mod Sound
pub mod ConstantLemmas
pub mod NameLemmas
