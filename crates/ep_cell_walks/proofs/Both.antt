-- Two states that come of two.
use Rattle.std.proofs.Common.{◌≡◌, ap, ◌∙◌}

pub pair_is : {S : Type 0} (f : S → S → S × S) (q : S × S) (k k2 l l2 : S) → q ≡ f k l → k ≡ k2 → l ≡ l2
    → q ≡ f k2 l2
pair_is f q k k2 l l2 e a b = e ∙ ap (λ x. f x l) a ∙ ap (λ x. f k2 x) b
