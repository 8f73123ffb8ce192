pub mod Sample
pub mod Text
