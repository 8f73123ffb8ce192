-- What limits of operands leave is what tests leave.
use Rattle.std.proofs.Common.{◌≡◌, ℕ, Bool, true, false, cond, List, [], ◌∷◌, ◌++◌, length, drop, Option, None, Some}
use Rattle.std.proofs.Common.{refl, ap, ◌∙◌, append_assoc}
use Rattle.ep_int.specs.declared.types.Cmp.{Cmp}
use Rattle.ep_int.specs.declared.types.Cmp.TheVariants.{Ne}
use Rattle.ep_domain.specs.Domain.{Ops}
use Rattle.ep_pointers.specs.Value.{Pointers, null_alone}
use Rattle.ep_pointers.specs.Compare.{comparison_of}
use Rattle.ep_reads.specs.Bytes.{is_null_alone}
use Rattle.ep_cells.specs.declared.cell.Cell.{Cell}
use Rattle.ep_cells.specs.declared.cell.Value.{Value}
use Rattle.ep_cells.specs.declared.cell.Value.TheVariants.{Num, Ptr}
use Rattle.ep_cells.specs.States.{Known}
use Rattle.ep_core.specs.Runs.{Side}
use Rattle.ep_equalities.specs.declared.pair.Fault.{Fault}
use Rattle.ep_equalities.specs.declared.pair.PairValue.{PairValue}
use Rattle.ep_evaluation.specs.Given.{alone, on, are_sure}
use Rattle.ep_evaluation.specs.Narrowed.{then_with, again, when_not, narrowed_by, numbers_narrowed, null_side}
use Rattle.ep_evaluation.specs.Narrowed.{says_alike, answer, pointers_narrowed}
use Rattle.ep_evaluation.specs.Operators.{test_of}
use Rattle.ep_evaluation.specs.Evaluation.{Means, number, pointer, if_sure, value_narrowed, test_assumed}
use Rattle.ep_evaluation.specs.Evaluation.{compare_means, pointers_means}
use Rattle.ep_eval_parts.specs.declared.limits.Limits.{Limits}
use Rattle.ep_eval_parts.specs.declared.limits.Limit.TheVariants.{Free, Null}
use Rattle.ep_eval_parts.specs.Limits.{limits_within, limits_if, null_limit, number_limits, pointer_limits}
use Rattle.ep_eval_parts.specs.Limits.{value_limits, limited, both_limited}

dropped : (old xs : List Fault) → drop (length old) (old ++ xs) ≡ xs
dropped [] xs = refl
dropped (f ∷ old) xs = dropped old xs

-- whether what was read since is known
pub sure_since : (old xs fs : List Fault) (from : ℕ) (b : Bool) → from ≡ length old → fs ≡ old ++ xs
    → b ≡ are_sure (drop from fs) → b ≡ are_sure xs
sure_since old xs fs from b i j h =
    h ∙ ap (λ n. are_sure (drop n fs)) i ∙ ap (λ fs. are_sure (drop (length old) fs)) j ∙ ap are_sure (dropped old xs)

pub sure_since_two : (old xs ys one two : List Fault) (from : ℕ) (b : Bool) → from ≡ length old → one ≡ old ++ xs
    → two ≡ one ++ ys → b ≡ are_sure (drop from two) → b ≡ are_sure (xs ++ ys)
sure_since_two old xs ys one two from b i j l h =
    sure_since old (xs ++ ys) two from b i (l ∙ ap (λ fs. fs ++ ys) j ∙ append_assoc old xs ys) h

module _ {N : Type 0} where
  then_alike : (o : Option (Known N)) (f g : Known N → Option (Known N)) → ((l : Known N) → f l ≡ g l)
      → then_with o f ≡ then_with o g
  then_alike None f g h = refl
  then_alike (Some l) f g h = h l

  module _ (D : Ops N) where
    null_is : (q : Pointers N) (b : Option Bool) (f : Known N → Option (Cell N)) (k : Known N)
        → limited D (null_limit q b) (f k) k ≡ null_side q b f k
    null_is q None f k = refl
    null_is q (Some b) f k = split (is_null_alone q)
      where
        split : (t : Bool) → limited D (cond t (Null b) Free) (f k) k ≡ cond t (limited D (Null b) (f k) k) (Some k)
        split true = refl
        split false = refl

    module _ (f g : Known N → Option (Cell N)) (k : Known N) where
      within_is : (r : Option (N × N)) → both_limited D (limits_within r) (f k) g k ≡ narrowed_by D r f g k
      within_is None = refl
      within_is (Some r) = refl

      numbers_are : (c : Cmp) (x y : Option N)
          → both_limited D (number_limits D c x y) (f k) g k ≡ numbers_narrowed D c x y f g k
      numbers_are c None y = refl
      numbers_are c (Some x) None = refl
      numbers_are c (Some x) (Some y) = within_is (D.filter c x y)

      both_are : (a : Option Bool) (p q : Pointers N) (t : Bool)
          → both_limited D (cond t (Some (record { first = null_limit q a; second = null_limit p a })) None) (f k) g k
          ≡ cond t (then_with (null_side q a f k) (λ k. null_side p a g k)) None
      both_are a p q true =
          ap (λ o. then_with o (λ l. limited D (null_limit p a) (g l) l)) (null_is q a f k)
          ∙ then_alike (null_side q a f k) _ _ (λ l. null_is p a g l)
      both_are a p q false = refl

      pointers_are : (c : Cmp) (t : Bool) (p q : Option (Pointers N))
          → both_limited D (pointer_limits D c t p q) (f k) g k ≡ pointers_narrowed D c t p q f g k
      pointers_are c t None q = refl
      pointers_are c t (Some p) None = refl
      pointers_are c t (Some p) (Some q) = both_are (says_alike c t) p q (answer (comparison_of D c p q) t)

      sure_is : (b : Bool) (r : Option (Limits N)) (o : Option (Known N)) → both_limited D r (f k) g k ≡ o
          → both_limited D (limits_if b r) (f k) g k ≡ if_sure D b k o
      sure_is true r o h = h
      sure_is false r o h = refl

    value_is : (f : Known N → Option (Cell N)) (k : Known N) (t : Bool) (v : Option (Value N))
        → both_limited D (value_limits D t v) (f k) (λ k. None) k ≡ value_narrowed D t v f k
    value_is f k t None = refl
    value_is f k t (Some (Num n)) = numbers_are f (λ k. None) k (test_of t) (Some n) (Some (D.single _))
    value_is f k t (Some (Ptr p)) = pointers_are f (λ k. None) k Ne t (Some p) (Some null_alone)

    -- ---- tests

    module _ (s : Side) (k : Known N) (x : PairValue N) (c : Option (Cell N)) (b : Bool) (w : Bool) (o : Option (Known N)) where
      pub value_left : (e : Means N) (t : Bool) → x ≡ (e.gives (alone s) k).pair → c ≡ e.cell s k
          → b ≡ are_sure (e.gives (alone s) k).faults
          → (w ≡ true → o ≡ both_limited D (limits_if b (value_limits D t (on x s).value)) c (λ k. None) k)
          → w ≡ true → o ≡ test_assumed D e.gives e.cell s t k
      value_left e t i j h q g =
          q g ∙ ap (λ c. both_limited D (limits_if b (value_limits D t (on x s).value)) c (λ k. None) k) j
          ∙ ap (λ b. both_limited D (limits_if b (value_limits D t (on x s).value)) (e.cell s k) (λ k. None) k) h
          ∙ ap (λ x. both_limited D (limits_if (are_sure (e.gives (alone s) k).faults) (value_limits D t (on x s).value))
          (e.cell s k) (λ k. None) k) i
          ∙ sure_is (e.cell s) (λ k. None) k (are_sure (e.gives (alone s) k).faults)
          (value_limits D t (on (e.gives (alone s) k).pair s).value) _
          (value_is (e.cell s) k t (on (e.gives (alone s) k).pair s).value)

      module _ (d a : Means N) (y : PairValue N) (l : Option (Limits N)) where
        pub compare_left : (cmp : Cmp) (t : Bool) → x ≡ (d.gives (alone s) k).pair → y ≡ (a.gives (alone s) k).pair
            → c ≡ d.cell s k → b ≡ are_sure ((d.gives (alone s) k).faults ++ (a.gives (alone s) k).faults)
            → l ≡ limits_if b (number_limits D (when_not cmp t) (number D (on x s)) (number D (on y s)))
            → (w ≡ true → o ≡ both_limited D l c (again (a.cell s k)) k)
            → w ≡ true → o ≡ (compare_means D cmp d a).assumes s t k
        compare_left cmp t j m n h p q g =
            rw (q g, p, h, n, j, m)
            (sure_is (d.cell s) (again (a.cell s k)) k _ _ _
            (numbers_are (d.cell s) (again (a.cell s k)) k (when_not cmp t) _ _))

        pub pointers_left : (cmp : Cmp) (t : Bool) → x ≡ (d.gives (alone s) k).pair → y ≡ (a.gives (alone s) k).pair
            → c ≡ d.cell s k → b ≡ are_sure ((d.gives (alone s) k).faults ++ (a.gives (alone s) k).faults)
            → l ≡ limits_if b (pointer_limits D cmp t (pointer D (on x s)) (pointer D (on y s)))
            → (w ≡ true → o ≡ both_limited D l c (again (a.cell s k)) k)
            → w ≡ true → o ≡ (pointers_means D cmp d a).assumes s t k
        pointers_left cmp t j m n h p q g =
            rw (q g, p, h, n, j, m)
            (sure_is (d.cell s) (again (a.cell s k)) k _ _ _
            (pointers_are (d.cell s) (again (a.cell s k)) k cmp t _ _))
