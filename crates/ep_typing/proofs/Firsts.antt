-- The first in a list that breaks a rule.
use Rattle.std.proofs.Common.{◌≡◌, List, [], ◌∷◌, ◌++◌}
use Rattle.ep_ast.specs.declared.refusals.Refusal.{Refusal}
use Rattle.ep_typing.specs.Offences.{First, here, later}

-- none of these breaks a rule
abbrev pub Clean : {X : Type 0} → (X → Refusal → Type 0) → List X → Type 0
Clean P [] = Unit {0}
Clean P (x ∷ xs) = ((s : Refusal) → P x s → ⊥) × Clean P xs

module _ {X : Type 0} (P : X → Refusal → Type 0) where
  pub both : (xs ys : List X) → Clean P xs → Clean P ys → Clean P (xs ++ ys)
  both [] ys h k = k
  both (x ∷ xs) ys h k = (h.0, both xs ys h.1 k)

  pub in_front : (xs ys : List X) (r : Refusal) → First P xs r → First P (xs ++ ys) r
  in_front xs ys r (here h) = here h
  in_front (x ∷ xs) ys r (later n f) = later n (in_front xs ys r f)

  pub past : (xs ys : List X) (r : Refusal) → Clean P xs → First P ys r → First P (xs ++ ys) r
  past [] ys r h f = f
  past (x ∷ xs) ys r h f = later h.0 (past xs ys r h.1 f)

  pub none_first : (xs : List X) (r : Refusal) → Clean P xs → First P xs r → ⊥
  none_first xs r h (here p) = h.0 r p
  none_first (x ∷ xs) r h (later n f) = none_first xs r h.1 f

  pub only_first : ((x : X) (r s : Refusal) → P x r → P x s → r ≡ s) → (xs : List X) (r s : Refusal)
      → First P xs r → First P xs s → r ≡ s
  only_first d [] r s f g = elim f [ ]
  only_first d (x ∷ xs) r s (here p) (here q) = d x r s p q
  only_first d (x ∷ xs) r s (here p) (later n g) = absurd (n r p)
  only_first d (x ∷ xs) r s (later n f) (here q) = absurd (n s q)
  only_first d (x ∷ xs) r s (later n f) (later m g) = only_first d xs r s f g
