pub mod Looking
pub mod Uniting
pub mod Positions
pub mod Fates
pub mod Moving
pub mod Fixed
