pub mod LeafLists
pub mod Same
pub mod Scalars
