pub mod DeclaratorAnswer
pub mod Parts
pub mod Answer
pub mod SpecAhead
