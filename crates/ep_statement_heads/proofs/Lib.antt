pub mod HeadLemmas
pub mod FrameLemmas
pub mod StandLemmas
