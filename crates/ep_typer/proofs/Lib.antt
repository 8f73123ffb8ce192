pub mod Moving
pub mod TextItems
pub mod Small
pub mod Elaborating
mod Relations
