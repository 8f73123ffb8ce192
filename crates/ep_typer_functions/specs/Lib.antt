pub mod View
pub mod BodyView
