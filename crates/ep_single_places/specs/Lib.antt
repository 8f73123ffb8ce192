pub mod Laws
pub mod MoveLaws
