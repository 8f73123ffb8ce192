pub mod Laws
pub mod WriteLaws
