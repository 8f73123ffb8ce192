use Rattle.std.proofs.Common.{sym, ap, ◌∙◌, subst, ℕ, ◌<◌}
use Rattle.std.specs.Prelude.{not}
use Rattle.ep_kinds.specs.Tame.{is_array_of_holders}
use Rattle.ep_double.proofs.Numbers.{all_fails}
use Rattle.ep_double.proofs.tame.types.has_no_array_of_holders.Goals as goal

pub returns-then-is_array_of_holders : goal.returns-then-is_array_of_holders
returns-then-is_array_of_holders c =
    sym (all_fails (λ ty. not (is_array_of_holders c.args.types.now ty)) _ c.loop-ty.ty
    (ap not (sym c.is_array_of_holders.ensures ∙ c.if-is_array_of_holders.true))
    (subst (λ (n : ℕ). c.loop-ty.ty < n) c.loop-ty.invariant.end c.loop-ty-test.true))
