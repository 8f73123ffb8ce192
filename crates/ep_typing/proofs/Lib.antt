pub mod Trees
pub mod Around
pub mod Opened
mod Rows
mod MeaningRows
mod TypeRows
pub mod Firsts
pub mod Order
pub mod FieldOrder
