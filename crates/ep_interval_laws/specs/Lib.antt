pub mod Ends
pub mod Ranges
pub mod Interval
pub mod Results
pub mod Domain
pub mod Least
