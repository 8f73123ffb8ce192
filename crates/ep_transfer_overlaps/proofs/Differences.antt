-- Two ranges of offsets, by the differences of their ends.
use Rattle.std.proofs.Common.{◌≡◌, ℕ, ℤ, pos, ◌-ℤ◌, Bool, ap, ◌∙◌}
use Rattle.ep_domain.specs.Domain.{Ops}
use Rattle.ep_transfers.specs.Copies.{larger, smaller, may_be_between, ranges_overlap}

module _ {N : Type 0} (D : Ops N) (agg : Bool) (n : ℕ) (r s : ℤ × ℤ) where
  pub overlap_is : (a b f h l m : ℤ) (t : Bool) → a ≡ r.0 -ℤ s.1 → b ≡ r.1 -ℤ s.0 → f ≡ pos 1 -ℤ pos n
      → h ≡ pos n -ℤ pos 1 → l ≡ larger D a f → m ≡ smaller D b h → t ≡ may_be_between D agg l m
      → t ≡ ranges_overlap D agg n r s
  overlap_is a b f h l m t ea eb ef eh el em et =
      let low : l ≡ larger D (r.0 -ℤ s.1) (pos 1 -ℤ pos n)
      = el ∙ ap (λ x. larger D x f) ea ∙ ap (larger D (r.0 -ℤ s.1)) ef in
      let high : m ≡ smaller D (r.1 -ℤ s.0) (pos n -ℤ pos 1)
      = em ∙ ap (λ x. smaller D x h) eb ∙ ap (smaller D (r.1 -ℤ s.0)) eh in
      et ∙ ap (λ x. may_be_between D agg x m) low
      ∙ ap (may_be_between D agg (larger D (r.0 -ℤ s.1) (pos 1 -ℤ pos n))) high
