pub mod Bytes
pub mod Read
pub mod Split
pub mod Unify
pub mod Laws
pub mod SplitLaws
pub mod Single
pub mod StepLaws
