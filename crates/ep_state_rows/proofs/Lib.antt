pub mod Apart
pub mod Swaps
pub mod Order
pub mod Row
pub mod Whole
pub mod Beyond
pub mod Walking
