pub mod Holders
pub mod Remembered
pub mod ByteStates
