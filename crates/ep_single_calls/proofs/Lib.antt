pub mod Machines
pub mod Kept
pub mod Bound
pub mod Arguments
pub mod Received
pub mod Results
