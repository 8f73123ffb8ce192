use Rattle.std.proofs.Common.{◌≡◌, drop, map}
use Rattle.ep_ast.specs.Declaration.{member_field}
use Rattle.ep_elaboration.specs.Aggregates.{entries_declared}
use Rattle.ep_scopes.specs.Comes.{Comes}
use Rattle.ep_scopes.specs.View.{env}
use Rattle.ep_declared.specs.Open.{AreTypes, Follows}
use Rattle.ep_declared.proofs.members.entries_declared.Given as goal

abbrev pub invariant-loop-tree : goal.invariant-loop-tree
invariant-loop-tree l = record {
  means : entries_declared (env l.env) l.fn.unclosed l.named l.fn.c (map member_field (drop l.tree-index l.list))
      ≡ entries_declared (env l.fn.env) l.fn.unclosed l.fn.named l.fn.c (map member_field l.list);
  after : Follows (env l.fn.env) (env l.env);
  members : AreTypes (env l.env).types l.named;
  comes : Comes (env l.fn.env) (env l.env);
}
