pub mod Behind
pub mod View
