pub mod Walk
pub mod OnePlace
