pub mod Results
pub mod Text
