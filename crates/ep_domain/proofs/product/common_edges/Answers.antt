use Rattle.std.proofs.Common.{ℤ, sym, ◌∙◌, ap, subst}
use Rattle.std.specs.Prelude.{IfSome}
use Rattle.ep_range_laws.specs.Ranges.{IsRange}
use Rattle.ep_domain.specs.Common.{edges_between}
use Rattle.ep_domain.specs.Laws.Narrowed.{common_edges_ends}
use Rattle.ep_domain.proofs.product.common_edges.Goals as goal

pub returns-clause-ends : goal.returns-clause-ends
returns-clause-ends g c =
    subst (λ o. IfSome o (λ (e : ℤ × ℤ). IsRange e.0 e.1))
    (sym (c.edges_between.ensures ∙ ap (edges_between g.A.Num.ops g.B.Num.ops c.args.left.now c.args.right.now) c.common_range.ensures))
    (common_edges_ends g.A.Num g.B.Num g.met.A.Num.laws g.met.B.Num.laws c.args.left.now c.args.right.now)
