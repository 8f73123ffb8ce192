pub mod View
pub mod ByCaller
pub mod Search
pub mod Visit
