pub use Rattle.ep_eval_loads.specs.After
pub use Rattle.ep_eval_loads.specs.Running
pub mod Limits
pub mod Steps
pub mod Verdicts
