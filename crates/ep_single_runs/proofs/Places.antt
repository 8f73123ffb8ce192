-- The one place where a run of bytes through a pointer begins, where the pointer can be one alone.
use Rattle.std.proofs.Common.{◌≡◌, ℕ, zero, suc, ◌+◌, ◌-◌, ◌/◌, ◌<◌, ◌≤◌, pos, Bool, true, false, cond, List}
use Rattle.std.proofs.Common.{[], ◌∷◌, ◌++◌, map, slice_get, Some, refl, ap, ◌∙◌, arith}
use Rattle.std.specs.List.{filter}
use Rattle.std.proofs.lemmas.Bool.{le-leb}
use Rattle.ep_domain.specs.Domain.{Ops, Lawful, IsSingle}
use Rattle.ep_equalities.specs.declared.pair.SideValue.{SideValue}
use Rattle.ep_evaluation.specs.Operators.{pointer_in}
use Rattle.ep_evaluation.specs.Accesses.{multiples, offsets_in, held_spots, spots, bounds_of}
use Rattle.ep_evaluation.specs.Evaluation.{targets_of, is_null}
use Rattle.ep_evaluation.proofs.Spots.{no_less}
use Rattle.ep_singles.proofs.Bytes.{held_single}
use Rattle.ep_single_places.specs.Laws.{IsOneInto}
use Rattle.ep_single_places.proofs.Places.{inside_one, one_into}
use Rattle.ep_single_runs.specs.Laws.{IsOneRun}

-- ---- a test that one number alone passes

module _ (test : ℕ → Bool) (q : ℕ) (there : test q ≡ true) (others : (x : ℕ) → (x ≡ q → ⊥) → test x ≡ false) where
  none_after : (a c : ℕ) → q < a → filter test (multiples 1 a c) ≡ []
  none_after a zero h = refl
  none_after a (suc c) h =
      ap (λ t. cond t (a ∷ filter test (multiples 1 (a + 1) c)) (filter test (multiples 1 (a + 1) c)))
      (others a (λ e. let z : ⊥ = omega (arith, h, e) in z))
      ∙ none_after (a + 1) c (omega (arith, h))

  one_after : (a c j : ℕ) → j < c → a + j ≡ q → filter test (multiples 1 a c) ≡ q ∷ []
  one_after a zero j h e = absurd (let z : ⊥ = omega (arith, h) in z)
  one_after a (suc c) zero h e =
      let i : a ≡ q = omega (arith, e) in
      ap (λ t. cond t (a ∷ filter test (multiples 1 (a + 1) c)) (filter test (multiples 1 (a + 1) c)))
      (ap test i ∙ there)
      ∙ ap (λ l. a ∷ l) (none_after (a + 1) c (omega (arith, i)))
      ∙ ap (λ x. x ∷ []) i
  one_after a (suc c) (suc j) h e =
      ap (λ t. cond t (a ∷ filter test (multiples 1 (a + 1) c)) (filter test (multiples 1 (a + 1) c)))
      (others a (λ i. let z : ⊥ = omega (arith, e, i) in z))
      ∙ one_after (a + 1) c j (omega (arith, h)) (omega (arith, e))

  one_offset : (size n : ℕ) → q + n ≤ size → filter test (offsets_in size n 1) ≡ q ∷ []
  one_offset size n h =
      ap (λ t. filter test (cond t (multiples 1 0 ((size - n) / 1 + 1)) [])) (le-leb n size (no_less n q size h))
      ∙ one_after 0 ((size - n) / 1 + 1) q (omega (arith, h)) (omega arith)

-- ---- a pointer

module _ {N : Type 0} (D : Ops N) (law : Lawful D) where
  one_run : (sizes : List ℕ) (n b q size : ℕ) (m : N) → IsSingle D m (pos q) → slice_get sizes b ≡ Some size
      → q + n ≤ size → spots D sizes n 1 ((b, m) ∷ []) ≡ (b, q) ∷ []
  one_run sizes n b q size m single s h =
      ap (λ o. held_spots D n 1 (b, m) o ++ []) s
      ∙ ap (λ qs. map (λ (q : ℕ). (b, q)) qs ++ [])
      (one_offset (λ x. D.holds m (pos x)) q (law.range_single m (pos q) single)
      (λ x ne. by x ne (D.holds m (pos x)) refl)
      size n h)
    where
      same : (x y : ℕ) → pos x ≡ pos y → x ≡ y
      same x y e = cc

      by : (x : ℕ) → (x ≡ q → ⊥) → (t : Bool) → D.holds m (pos x) ≡ t → t ≡ false
      by x ne true e = absurd (ne (same x q (held_single D law m (pos q) (pos x) single e)))
      by x ne false e = refl

  pub runs_are_one : (sizes : List ℕ) (n : ℕ) (x : SideValue N) (b q size : ℕ) → IsOneInto D x.value b q → 0 < n
      → slice_get sizes b ≡ Some size → q + n ≤ size → IsOneRun D sizes n x b q
  runs_are_one sizes n x b q size one some s h =
      let i = one_into D law x.value b q one.one one.allowed in
      record {
        not_null = ap (λ o. is_null D sizes (pointer_in o)) i.is;
        inside = ap (λ o. bounds_of D sizes n (targets_of D sizes (pointer_in o))) i.is
            ∙ inside_one D law n some i.n q i.single sizes b size s h;
        place = ap (λ o. spots D sizes n 1 (targets_of D sizes (pointer_in o))) i.is
            ∙ one_run sizes n b q size i.n i.single s h;
      }
