pub mod Jobs
pub mod View
pub mod Numbers
pub mod Check
pub mod Certificates
pub mod CheckView
pub mod Sample
pub mod Top
