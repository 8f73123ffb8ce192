use Rattle.std.proofs.Common.{◌≡◌, drop, map}
use Rattle.ep_ast.specs.Declaration.{param_of}
use Rattle.ep_elaboration.specs.Functions.{have_same_names}
use Rattle.ep_typer_arms.proofs.heads.have_same_names.Given as goal

abbrev pub invariant-loop-place : goal.invariant-loop-place
invariant-loop-place l =
    have_same_names (map param_of (drop l.place l.a)) (map param_of (drop l.place l.b))
    ≡ have_same_names (map param_of l.a) (map param_of l.b)
