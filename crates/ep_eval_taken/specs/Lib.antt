pub use Rattle.ep_eval.specs.After
pub use Rattle.ep_eval.specs.Running
pub use Rattle.ep_eval.specs.Verdicts
