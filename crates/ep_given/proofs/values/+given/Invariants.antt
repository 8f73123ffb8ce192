use Rattle.std.proofs.Common.{◌≡◌, drop}
use Rattle.ep_declared.specs.View as objects
use Rattle.ep_elaboration.specs.Given.{both_given}
use Rattle.ep_layout.specs.Table.{Grows}
use Rattle.ep_scopes.specs.Known.{IsKnownEnv}
use Rattle.ep_scopes.specs.View.{env}
use Rattle.ep_given.specs.Appended.{all_behind}
use Rattle.ep_given.specs.View as view
use Rattle.ep_given.proofs.ListLemmas.{left}
use Rattle.ep_given.proofs.values.+given.Given as goal

abbrev pub invariant-add_values-loop-number : goal.invariant-add_values-loop-number
invariant-add_values-loop-number l = record {
  known : IsKnownEnv (env l.env);
  grown : Grows (env l.fn.env).types (env l.env).types;
  means : all_behind both_given (view.given l.given) (left (env l.env) l.fn.global (objects.object l.whole) l.number (drop l.number l.values))
      ≡ all_behind both_given (view.given l.fn.given) (left (env l.fn.env) l.fn.global (objects.object l.whole) 0 l.values);
}
