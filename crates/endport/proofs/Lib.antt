pub mod Runs
pub mod Reporting
mod Asked
mod Ends
mod Proving
mod Telling
mod Verifying
