pub mod StatementKinds
pub mod Values
pub mod MainResult
pub mod Stores
