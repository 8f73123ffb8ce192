pub mod Pairs
pub mod PairedHeads
pub mod Alone
pub mod Grown
pub mod Gathering
pub mod WholeArms
