pub mod View
pub mod Cells
pub mod StoreView
