use Rattle.std.proofs.Common.{refl}
use Rattle.std.proofs.lemmas.Result.{err_from_is_err_and}
use Rattle.ep_scopes.specs.View.{env}
use Rattle.ep_scopes.proofs.Coming.{comes_itself, comes_on}
use Rattle.ep_declared.proofs.BodyComing.{stop_comes}
use Rattle.ep_declared.proofs.Growth.{follows_itself, follows_more, type_known}
use Rattle.ep_declared.proofs.MemberLemmas.{all_entries, entry_stops, entry_went}
use Rattle.ep_declared.proofs.members.entries_declared.Goals as goal

pub loop-tree-init : goal.loop-tree-init
loop-tree-init c = record {
  means = refl;
  after = follows_itself (env c.args.env.now) c.requires.known;
  members = c.requires.members;
  comes = comes_itself (env c.args.env.now);
}

pub entry_declared-requires : goal.entry_declared-requires
entry_declared-requires c = record {
  known = c.loop-tree.invariant.after.known;
  inside = type_known c.args.env.now.types c.loop-tree.env.types c.loop-tree.invariant.after.grown c.args.c
      c.requires.inside;
  members = c.loop-tree.invariant.members;
}

pub returns-in_err-entry_declared-clause-means : goal.returns-in_err-entry_declared-clause-means
returns-in_err-entry_declared-clause-means c =
    let p = err_from_is_err_and c.from_residual.result c.from_residual.ensures.1 in
    rw (p.1, p.2) (entry_stops c.args.c c.args.unclosed.now c.loop-tree.tree-index c.args.list.now c.tree-item.result
    c.loop-tree-test.true c.tree-item.is (env c.loop-tree.env) c.loop-tree.named _ c.loop-tree.invariant.means _
    c.in_err-entry_declared.ensures.means)

pub loop-tree-preserved : goal.loop-tree-preserved
loop-tree-preserved c = record {
  means = entry_went c.args.c c.args.unclosed.now c.loop-tree.tree-index c.args.list.now c.tree-item.result
      c.loop-tree-test.true c.tree-item.is (env c.loop-tree.env) c.loop-tree.named _ c.loop-tree.invariant.means
      c.entry_declared.new.named (env c.entry_declared.new.env) c.in_ok-entry_declared.ensures.means;
  after = follows_more (env c.args.env.now) (env c.loop-tree.env) (env c.entry_declared.new.env)
      c.loop-tree.invariant.after c.in_ok-entry_declared.ensures.after;
  members = c.in_ok-entry_declared.ensures.members;
  comes = comes_on (env c.args.env.now) (env c.loop-tree.env) (env c.entry_declared.new.env)
      c.loop-tree.invariant.comes c.in_ok-entry_declared.ensures.comes;
}

pub returns-clause-means : goal.returns-clause-means
returns-clause-means c =
    all_entries c.args.c c.args.unclosed.now c.loop-tree.tree-index c.args.list.now (env c.loop-tree.env)
    c.loop-tree.named _ c.loop-tree-test.false c.loop-tree.invariant.means

pub returns-in_err-entry_declared-clause-comes : goal.returns-in_err-entry_declared-clause-comes
returns-in_err-entry_declared-clause-comes c =
    let p = err_from_is_err_and c.from_residual.result c.from_residual.ensures.1 in
    rw (p.1, p.2) (stop_comes (Unit {0}) (Unit {0}) _ (env c.args.env.now) (env c.loop-tree.env)
    (env c.entry_declared.new.env) c.loop-tree.invariant.comes c.in_err-entry_declared.ensures.comes)
