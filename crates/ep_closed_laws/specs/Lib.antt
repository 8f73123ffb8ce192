pub mod Bounded
pub mod BoundedLaws
pub mod Exactly
pub mod Closely
pub mod Laws
