use Rattle.std.proofs.Common.{List, ap, sym, ◌∙◌}
use Rattle.ep_expression_trees.specs.declared.kept.Prefix.{Prefix}
use Rattle.ep_expression_trees.specs.BoundedTrees.{wrap_all, wrap}
use Rattle.ep_exprs.proofs.PrefixLemmas.{wrap-last}
use Rattle.ep_exprs.proofs.frames.wrapped.Goals as goal

pub loop-prefix-preserved : goal.loop-prefix-preserved
loop-prefix-preserved c = λ t h. (
    let q = c.loop-prefix.invariant t h in (
      wrap c.in-Some.prefix q.0,
      c.in_ok-found.ensures q.0 q.1,
      sym (wrap-last c.pop.new.self.items c.in-Some.prefix q.0)
          ∙ ap (λ (ps : List Prefix). wrap_all ps q.0) (sym c.in-Some.ensures.items) ∙ q.2,
    ))
