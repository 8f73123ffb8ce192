use Rattle.std.proofs.Common.{◌≡◌, drop, map}
use Rattle.ep_ast.specs.Declaration.{declarator}
use Rattle.ep_elaboration.specs.ProgramSteps.{types_declared}
use Rattle.ep_scopes.specs.View.{env}
use Rattle.ep_declared.specs.Open.{Follows}
use Rattle.ep_declared.proofs.typedefs.types_declared.Given as goal

abbrev pub invariant-loop-d : goal.invariant-loop-d
invariant-loop-d l = record {
  means : types_declared (env l.env) l.fn.c (map declarator (drop l.d-index l.list))
      ≡ types_declared (env l.fn.env) l.fn.c (map declarator l.list);
  after : Follows (env l.fn.env) (env l.env);
}
