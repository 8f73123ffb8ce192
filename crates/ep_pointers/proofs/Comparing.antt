-- Comparisons: pointers into two blocks, what the answers mean, and values with one member.
use Rattle.std.proofs.Common.{◌≡◌, ℕ, suc, Bool, true, false, ◌||◌, not, eqb, ltb, List, [], ◌∷◌, length, slice_get}
use Rattle.ep_int.proofs.Basics.{or-true}
use Rattle.std.proofs.Common.{refl, sym, ap, subst, Some, None, arith}
use Rattle.std.proofs.lemmas.Bool.{lt-ltb}
use Rattle.ep_pointers.specs.Value.{Target, IsRising}
use Rattle.ep_pointers.specs.Compare.{in_two_blocks}
use Rattle.ep_pointers.proofs.Lists.{less, equals, more, order, below}

two : (n : ℕ) → ltb 1 (suc (suc n)) ≡ true
two n = lt-ltb 1 (suc (suc n)) (omega arith)

module _ {N : Type 0} where
  pub none_in_two : (ts : List (Target N)) → in_two_blocks ts [] ≡ false
  none_in_two [] = refl
  none_in_two (t ∷ ts) = none_in_two ts

  -- the first targets differ, or one list has more than one
  abbrev pub may_differ : (s t : Target N) (xs ys : List (Target N)) → Bool
  may_differ s t xs ys = (not (eqb s.0 t.0) || ltb 1 (length xs)) || ltb 1 (length ys)

  two_blocks : (s t : Target N) (ss ts : List (Target N)) → IsRising (s ∷ ss) → IsRising (t ∷ ts)
      → may_differ s t (s ∷ ss) (t ∷ ts) ≡ in_two_blocks (s ∷ ss) (t ∷ ts)
  two_blocks s t [] [] r q = refl
  two_blocks s t ss (u ∷ ts) r q = rw (two (length ts), or-true) (sym found)
    where
      found : in_two_blocks (s ∷ ss) (t ∷ u ∷ ts) ≡ true
      found = elim (order s.0 t.0) [
        | less o ↦ rw (o.differs) refl
        | more o ↦ rw (o.differs') refl
        | equals o ↦ let p = below s.0 u.0 (omega (arith, o.eq, q.0.0)) in rw (o.equal, p.differs) refl
      ]
  two_blocks s t (v ∷ ss) [] r q = rw (two (length ss), or-true) (sym found)
    where
      found : in_two_blocks (s ∷ v ∷ ss) (t ∷ []) ≡ true
      found = elim (order s.0 t.0) [
        | less o ↦ rw (o.differs) refl
        | more o ↦ rw (o.differs') refl
        | equals o ↦ let p = below t.0 v.0 (omega (arith, o.eq, r.0.0)) in rw (o.equal, p.differs') refl
      ]

  pub record Shape (t : Target N) (xs : List (Target N)) : Type 0 where
    pub rest : List (Target N)
    pub is : xs ≡ t ∷ rest

  pub shape : (t : Target N) (xs : List (Target N)) → Some t ≡ slice_get xs 0 → Shape t xs
  shape t [] e = absurd cc
  shape t (x ∷ xs) e = record { rest = xs; is = let f : t ≡ x = cc in ap (λ z. z ∷ xs) (sym f) }

  at_shapes : (s t : Target N) (ss ts xs ys : List (Target N)) → s ∷ ss ≡ xs → t ∷ ts ≡ ys → IsRising xs → IsRising ys
      → may_differ s t xs ys ≡ in_two_blocks xs ys
  at_shapes s t ss ts xs ys e f r q =
      subst (λ z. may_differ s t z ys ≡ in_two_blocks z ys) e
      (subst (λ z. may_differ s t (s ∷ ss) z ≡ in_two_blocks (s ∷ ss) z) f
      (two_blocks s t ss ts (subst IsRising (sym e) r) (subst IsRising (sym f) q)))

  pub two_blocks_at : (s t : Target N) (xs ys : List (Target N)) → Some s ≡ slice_get xs 0 → Some t ≡ slice_get ys 0
      → IsRising xs → IsRising ys → may_differ s t xs ys ≡ in_two_blocks xs ys
  two_blocks_at s t xs ys e f r q = at_shapes s t (shape s xs e).rest (shape t ys f).rest xs ys
      (sym (shape s xs e).is) (sym (shape t ys f).is) r q

  pub empty_at : (ys : List (Target N)) → None ≡ slice_get ys 0 → ys ≡ []
  empty_at [] e = refl
  empty_at (y ∷ ys) e = absurd cc
