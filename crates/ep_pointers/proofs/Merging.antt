-- Two lists of targets are gone through once.
use Rattle.std.proofs.Common.{◌≡◌, ℕ, suc, ◌+◌, ◌<◌, ◌≤◌, List, [], ◌∷◌, ◌++◌, append_assoc, drop, length, get_or}
use Rattle.std.proofs.Common.{refl, sym, ap, ◌∙◌, subst, arith, drop-cons, ◌⊎◌, inl, inr}
use Rattle.std.proofs.lemmas.List.{drop_all, drop-drop}
use Rattle.ep_pointers.specs.Value.{Target, AreAbove, IsRising, together}
use Rattle.ep_pointers.specs.Parts.{first_of}
use Rattle.ep_pointers.specs.declared.merge.First.{First}
use Rattle.ep_pointers.proofs.Lists.{less, equals, more, order, above_lower, rising_drop, front_stays, none_together}

module _ {N : Type 0} (f : N → N → N) where
  -- ---- the first target of both

  pub record Takes (g : First N) : Type 0 where
    pub left : g.left ≤ 1
    pub right : g.right ≤ 1
    pub some : 0 < g.left + g.right

  pub first_takes : (s t : Target N) → Takes (first_of f s t)
  first_takes s t = elim (order s.0 t.0) [
    | less o ↦ rw (o.is_less) (record { left = omega arith; right = omega arith; some = omega arith })
    | equals o ↦ rw (o.is_not_less, o.is_not_more) (record {
      left = omega arith;
      right = omega arith;
      some = omega
          arith;
    })
    | more o ↦ rw (o.is_not_more, o.is_less) (record { left = omega arith; right = omega arith; some = omega arith })
  ]

  pub takes : (s t : Target N) (g : First N) → g ≡ first_of f s t → Takes g
  takes s t g e = subst Takes (sym e) (first_takes s t)

  first_step : (s t : Target N) (ss ts : List (Target N)) → IsRising (s ∷ ss) → IsRising (t ∷ ts)
      → together f (s ∷ ss) (t ∷ ts) ≡ (first_of f s t).target ∷ together f (drop (first_of f s t).left (s ∷ ss))
      (drop (first_of f s t).right (t ∷ ts))
  first_step s t ss ts r q = elim (order s.0 t.0) [
    | less o ↦ front_stays f s ss (t ∷ ts) (o.lt, above_lower s.0 t.0 ts o.lt q.0) ∙ rw (o.is_less) refl
    | equals o ↦
        let high : AreAbove s.0 ts = subst (λ b. AreAbove b ts) (sym o.eq) q.0 in
        rw (o.is_not_less, o.is_not_more, o.equal) (front_stays f (s.0, f s.1 t.1) ss ts high)
    | more o ↦ rw (o.is_not_more, o.is_less) (front_stays f t (s ∷ ss) ts q.0)
  ]

  pub step_at : (xs ys : List (Target N)) (i j : ℕ) (s t : Target N) → IsRising xs → IsRising ys → i < length xs
      → j < length ys → s ≡ get_or xs i s → t ≡ get_or ys j t
      → together f (drop i xs) (drop j ys) ≡ (first_of f s t).target ∷ together f
      (drop (i + (first_of f s t).left) xs) (drop (j + (first_of f s t).right) ys)
  step_at xs ys i j s t r q h k e g =
      let x : drop i xs ≡ s ∷ drop (suc i) xs = drop-cons xs i s h ∙ ap (λ z. z ∷ drop (suc i) xs) (sym e) in
      let y : drop j ys ≡ t ∷ drop (suc j) ys = drop-cons ys j t k ∙ ap (λ z. z ∷ drop (suc j) ys) (sym g) in
      let rx : IsRising (s ∷ drop (suc i) xs) = subst IsRising x (rising_drop i xs r) in
      let ry : IsRising (t ∷ drop (suc j) ys) = subst IsRising y (rising_drop j ys q) in
      let here : together f (drop i xs) (drop j ys) ≡ together f (s ∷ drop (suc i) xs) (t ∷ drop (suc j) ys) = ap
      (λ z. together f z (drop j ys)) x ∙ ap (λ z. together f (s ∷ drop (suc i) xs) z) y in
      let step = first_step s t (drop (suc i) xs) (drop (suc j) ys) rx ry in
      let l : drop (first_of f s t).left (s ∷ drop (suc i) xs) ≡ drop (i + (first_of f s t).left) xs = ap
      (drop (first_of f s t).left) (sym x) ∙ drop-drop (first_of f s t).left i xs in
      let m : drop (first_of f s t).right (t ∷ drop (suc j) ys) ≡ drop (j + (first_of f s t).right) ys = ap
      (drop (first_of f s t).right) (sym y) ∙ drop-drop (first_of f s t).right j ys in
      here ∙ step ∙ ap (λ z. (first_of f s t).target ∷ together f z (drop (first_of f s t).right
      (t ∷ drop (suc j) ys))) l ∙ ap (λ z. (first_of f s t).target ∷ together f
      (drop (i + (first_of f s t).left) xs) z) m

  -- one turn, with what is already there
  pub turn : (xs ys out : List (Target N)) (i j : ℕ) (s t : Target N) (g : First N) → g ≡ first_of f s t → IsRising xs
      → IsRising ys → i < length xs → j < length ys → s ≡ get_or xs i s → t ≡ get_or ys j t
      → out ++ together f (drop i xs) (drop j ys) ≡ together f xs ys
      → (out ++ g.target ∷ []) ++ together f (drop (i + g.left) xs) (drop (j + g.right) ys) ≡ together f xs ys
  turn xs ys out i j s t g w r q h k e v inv =
      subst (λ (u : First N). (out ++ u.target ∷ []) ++ together f (drop (i + u.left) xs) (drop (j + u.right) ys) ≡
      together f xs ys) (sym w)
      (append_assoc out ((first_of f s t).target ∷ []) _ ∙ ap (λ z. out ++ z)
      (sym (step_at xs ys i j s t r q h k e v)) ∙ inv)

  -- what is left when one list is at its end
  pub rest_is : (xs ys : List (Target N)) (i j : ℕ) → IsRising ys → (length xs ≤ i) ⊎ (length ys ≤ j)
      → together f (drop i xs) (drop j ys) ≡ drop i xs ++ drop j ys
  rest_is xs ys i j q (inl h) = rw (drop_all i xs h) (none_together f (drop j ys) (rising_drop j ys q))
  rest_is xs ys i j q (inr h) = rw (drop_all j ys h) (sym (ends (drop i xs)))
    where
      ends : (zs : List (Target N)) → zs ++ [] ≡ zs
      ends [] = refl
      ends (z ∷ zs) = ap (λ u. z ∷ u) (ends zs)

  pub whole : (xs ys out : List (Target N)) (i j : ℕ) → IsRising ys → (length xs ≤ i) ⊎ (length ys ≤ j)
      → out ++ together f (drop i xs) (drop j ys) ≡ together f xs ys
      → (out ++ drop i xs) ++ drop j ys ≡ together f xs ys
  whole xs ys out i j q h inv = append_assoc out (drop i xs) (drop j ys)
      ∙ ap (λ z. out ++ z) (sym (rest_is xs ys i j q h)) ∙ inv
