pub mod Carrying
pub mod Cutting
pub mod Rounds
pub mod Merging
pub mod Takings
pub mod Row
pub mod Order
pub mod Whole
