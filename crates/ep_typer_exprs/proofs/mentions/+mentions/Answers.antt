use Rattle.ep_scopes.specs.View.{env}
use Rattle.ep_typer_exprs.proofs.MentionLemmas.{call_mentioned, none_left, one_more}
use Rattle.ep_typer_exprs.proofs.mentions.+mentions.Goals as goal

pub mention-returns-in_ok-mention-in-Call-clause-means : goal.mention-returns-in_ok-mention-in-Call-clause-means
mention-returns-in_ok-mention-in-Call-clause-means t c =
    call_mentioned c.mention_all.result (env c.args.env.now) (env c.mention-in-Call.new.env) (env c.mention_all.new.env) c.in-Call.field-0
    c.args.tree.now c.deref-in-Call.result.now c.in-Call.f c.in-Call.list c.deref-in-Call-2.result.now c.in-Call.is c.deref-in-Call.ensures
    c.deref-in-Call-2.ensures.value c.in_ok-mention-in-Call.ensures.means c.mention_all.ensures.means

pub mention_all-loop-tree-preserved : goal.mention_all-loop-tree-preserved
mention_all-loop-tree-preserved t c = record {
  known = c.in_ok-mention.ensures.known;
  means = one_more c.loop-tree.tree-index c.args.list.now c.tree-item.result (env c.loop-tree.env) (env c.mention.new.env) _
      c.loop-tree-test.true c.tree-item.is c.in_ok-mention.ensures.means c.loop-tree.invariant.means;
}

pub mention_all-returns-clause-means : goal.mention_all-returns-clause-means
mention_all-returns-clause-means t c =
    none_left c.loop-tree.tree-index c.args.list.now (env c.loop-tree.env) _ c.loop-tree-test.false c.loop-tree.invariant.means
