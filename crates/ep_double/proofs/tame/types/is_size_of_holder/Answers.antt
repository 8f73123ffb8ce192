use Rattle.std.proofs.Common.{sym, ◌∙◌, subst, ℕ, ◌<◌}
use Rattle.ep_double.specs.Holders.{is_holder_of}
use Rattle.ep_double.proofs.Numbers.{any_found}
use Rattle.ep_double.proofs.tame.types.is_size_of_holder.Goals as goal

pub returns-then-is_holder_of : goal.returns-then-is_holder_of
returns-then-is_holder_of c =
    sym (any_found (is_holder_of c.args.types.now c.args.bytes) _ c.loop-ty.ty
    (sym c.is_holder_of.ensures ∙ c.if-is_holder_of.true)
    (subst (λ (n : ℕ). c.loop-ty.ty < n) c.loop-ty.invariant.end c.loop-ty-test.true))
