use Rattle.std.proofs.Common.{nat_eq, sym, ◌∙◌}
use Rattle.std.proofs.lemmas.List.Sorted.{list_any-IsPermutation}
use Rattle.ep_bicells.proofs.changes.in_order.Goals as goal

pub returns : goal.returns
returns c = λ k h. sym (list_any-IsPermutation (nat_eq k) _ _ c.sort.ensures.permutation) ∙ h
