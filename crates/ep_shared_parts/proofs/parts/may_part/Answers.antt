use Rattle.std.proofs.Common.{arith, sym, ◌∙◌}
use Rattle.std.proofs.lemmas.Bool.Decides.{nat_tests}
use Rattle.ep_shared_parts.proofs.Steps.{below_of, from_of}
use Rattle.ep_shared_parts.proofs.parts.may_part.Goals as goal

pub returns : goal.returns
returns g c = λ h. (
  omega arith,
  grind (arith, nat_tests),
  below_of g.T.Numbered.number c.args.k c.args.left.now (sym c.are_below.ensures ∙ c.if-not-are_below.false),
  from_of g.T.Numbered.number c.args.k c.args.right.now (sym c.are_from.ensures ∙ h),
)
