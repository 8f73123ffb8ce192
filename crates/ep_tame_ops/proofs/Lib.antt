pub mod UndefinedKinds
pub mod GuardsPass
pub mod GoodOps
