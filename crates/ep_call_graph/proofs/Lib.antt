pub mod Lists
pub mod Marks
pub mod Steps
pub mod Visits
pub mod DepthLemmas
pub mod Among
