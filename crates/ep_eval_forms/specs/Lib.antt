pub use Rattle.ep_eval_parts.specs.After
pub use Rattle.ep_eval_parts.specs.Running
pub use Rattle.ep_eval_parts.specs.Limits
pub use Rattle.ep_eval_parts.specs.Steps
pub use Rattle.ep_eval_parts.specs.Verdicts
pub mod Results
