use Rattle.std.proofs.Common.{◌≡◌, drop}
use Rattle.ep_elaboration.specs.Declarations.{both_made}
use Rattle.ep_given.specs.Appended.{all_behind}
use Rattle.ep_scopes.specs.Known.{IsKnown, IsKnownEnv}
use Rattle.ep_scopes.specs.View.{env}
use Rattle.ep_typer_declarations.specs.View as view
use Rattle.ep_typer_declarations.proofs.VariableLemmas.{left}
use Rattle.ep_typer_declarations.proofs.declarations.variables_declared.Given as goal

abbrev pub invariant-loop-init : goal.invariant-loop-init
invariant-loop-init l = record {
  known : IsKnownEnv (env l.env);
  inside : IsKnown (env l.env).types l.fn.c;
  means : all_behind both_made (view.made l.made) (left (env l.env) l.fn.global l.fn.may_call l.fn.c (drop l.init-index l.inits))
      ≡ left (env l.fn.env) l.fn.global l.fn.may_call l.fn.c l.inits;
}
