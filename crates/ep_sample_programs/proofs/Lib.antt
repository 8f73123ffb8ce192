mod Bodies
mod Checks
mod Sites
pub mod Meant
