pub use Rattle.ep_eval_taken.specs.After
pub use Rattle.ep_eval_taken.specs.Running
pub use Rattle.ep_eval_taken.specs.Verdicts
pub mod Typed
