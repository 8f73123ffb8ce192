pub mod Ready
pub mod Results
