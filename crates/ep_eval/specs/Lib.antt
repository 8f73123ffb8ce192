pub use Rattle.ep_eval_forms.specs.After
pub use Rattle.ep_eval_forms.specs.Running
pub use Rattle.ep_eval_forms.specs.Verdicts
pub mod Forms
