use Rattle.std.proofs.Common.{◌≡◌, [], drop, map}
use Rattle.ep_ast.specs.Declaration.{member_of, spec_of, to_members, to_specs}
use Rattle.ep_ast.specs.Expression.{type_word}
use Rattle.ep_elaboration.specs.Aggregates.{all_members, specs_declared}
use Rattle.ep_scopes.specs.Comes.{Comes}
use Rattle.ep_scopes.specs.Known.{IsKnownEnv}
use Rattle.ep_scopes.specs.View.{env}
use Rattle.ep_declared.specs.Open.{AreTypes, IsAfter}
use Rattle.ep_declared.proofs.bodies.+bodies.Given as goal

abbrev pub invariant-specs_inside-loop-spec : goal.invariant-specs_inside-loop-spec
invariant-specs_inside-loop-spec l = record {
  known : IsKnownEnv (env l.env);
  same : env l.env ≡ env l.fn.env;
  means : specs_declared (env l.env) l.unclosed (map type_word l.before.items) (to_specs (map spec_of (drop
      l.spec-index l.specs)))
      ≡ specs_declared (env l.fn.env) l.unclosed [] (to_specs (map spec_of l.specs));
}

abbrev pub invariant-all_members-loop-member : goal.invariant-all_members-loop-member
invariant-all_members-loop-member l = record {
  means : all_members (env l.env) l.unclosed l.named (to_members (map member_of (drop l.member-index
      l.members)))
      ≡ all_members (env l.fn.env) l.unclosed [] (to_members (map member_of l.members));
  after : IsAfter l.unclosed (env l.fn.env) (env l.env);
  members : AreTypes (env l.env).types l.named;
  comes : Comes (env l.fn.env) (env l.env);
}
