pub mod Multiples
pub mod Classes
pub mod Operations
pub mod Cuts
pub mod Results
pub mod Strides
pub mod Worked
