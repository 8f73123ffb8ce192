-- The one place of an access through a pointer that can be one alone.
use Rattle.std.proofs.Common.{zero-mul, add-zero, ◌≡◌, ℕ, zero, suc, ◌+◌, ◌-◌, ◌*◌, ◌/◌, ◌%◌, ◌<◌, ◌≤◌, ℤ, pos, ◌+ℤ◌}
use Rattle.ep_evaluation.proofs.Spots.{below_next, enough, exact, from_zero, next_by, no_less}
use Rattle.std.proofs.Common.{◌-ℤ◌, Bool, true, false, ◌&&◌, ◌||◌, not, nat_eq, cond, List, [], ◌∷◌, ◌++◌}
use Rattle.std.proofs.Common.{map, slice_get, Option, Some, None, IsSomeAnd, refl, sym, ap, ◌∙◌, subst, arith}
use Rattle.std.specs.Prelude.{int_lt, unsigned_abs}
use Rattle.std.specs.List.{filter}
use Rattle.std.proofs.lemmas.Int.{ints}
use Rattle.std.proofs.lemmas.Bool.{eqb-true, le-leb}
use Rattle.std.proofs.Math.Nat.{le-div_iff_mul-le, suc-mul}
use Rattle.ep_range_laws.proofs.Comparisons.{lt_false}
use Rattle.ep_int.specs.declared.types.Scalar.TheVariants.{Pointer}
use Rattle.ep_int.specs.Memory.{pointer as into_block}
use Rattle.ep_domain.specs.Domain.{Ops, Lawful, Holds, IsSingle}
use Rattle.ep_pointers.specs.Value.{Pointers, one_target, HoldsPointer, into, only_null, only_place}
use Rattle.ep_cells.specs.declared.cell.Value.{Value}
use Rattle.ep_cells.specs.declared.cell.Value.TheVariants.{Num, Ptr}
use Rattle.ep_cells.specs.Meaning.{Allows}
use Rattle.ep_equalities.specs.declared.pair.SideValue.{SideValue}
use Rattle.ep_evaluation.specs.Given.{shows_if}
use Rattle.ep_evaluation.specs.Operators.{pointer_in}
use Rattle.ep_evaluation.specs.Accesses.{multiples, offsets_in, held_spots, spots, leaves_block, bounds_of, is_some_odd}
use Rattle.ep_evaluation.specs.Accesses.{may_be_odd}
use Rattle.ep_evaluation.specs.Evaluation.{targets_of, is_null}
use Rattle.ep_singles.specs.Cells.{IsOneValue, one_pointer}
use Rattle.ep_singles.proofs.Bytes.{held_single}
use Rattle.ep_single_places.specs.Laws.{IsPlaceFor, IsOneInto, IsOneAccess}

-- ---- offsets

not_last : (a q n x y : ℕ) → y ≡ x + n → a + y ≡ q → 0 < n → a ≡ q → ⊥
not_last a q n x y e f some i = omega (arith, e, f, some, i)

one_count : (q : ℕ) → unsigned_abs (pos q -ℤ pos q) + 1 ≡ 1
one_count q = omega (arith, ints)

even_by : (t : Bool) → ((t && not (nat_eq 0 0)) || false) || false ≡ false
even_by true = refl
even_by false = refl

-- ---- a single offset

module _ {N : Type 0} (D : Ops N) (law : Lawful D) (n : ℕ) (some : 0 < n) (m : N) (q : ℕ)
    (single : IsSingle D m (pos q)) where
  held : D.holds m (pos q) ≡ true
  held = law.range_single m (pos q) single

  only : (x : ℕ) → (x ≡ q → ⊥) → D.holds m (pos x) ≡ false
  only x ne = by (D.holds m (pos x)) refl
    where
      same : pos x ≡ pos q → x ≡ q
      same e = cc

      by : (t : Bool) → D.holds m (pos x) ≡ t → t ≡ false
      by true e = absurd (ne (same (held_single D law m (pos q) (pos x) single e)))
      by false e = refl

  none_behind : (a c : ℕ) → q < a → filter (λ x. D.holds m (pos x)) (multiples n a c) ≡ []
  none_behind a zero h = refl
  none_behind a (suc c) h =
      ap (λ t. cond t (a ∷ filter (λ x. D.holds m (pos x)) (multiples n (a + n) c))
      (filter (λ x. D.holds m (pos x)) (multiples n (a + n) c)))
      (only a (λ e. let z : ⊥ = omega (arith, h, e) in z))
      ∙ none_behind (a + n) c (omega (arith, h))

  one_among : (a c j : ℕ) → j < c → a + j * n ≡ q → filter (λ x. D.holds m (pos x)) (multiples n a c) ≡ q ∷ []
  one_among a zero j h e = absurd (let z : ⊥ = omega (arith, h) in z)
  one_among a (suc c) zero h e =
      let i : a ≡ q = sym (ap (λ x. a + x) (zero-mul n) ∙ add-zero a) ∙ e in
      ap (λ t. cond t (a ∷ filter (λ x. D.holds m (pos x)) (multiples n (a + n) c))
      (filter (λ x. D.holds m (pos x)) (multiples n (a + n) c)))
      (ap (λ x. D.holds m (pos x)) i ∙ held)
      ∙ ap (λ l. a ∷ l) (none_behind (a + n) c (omega (arith, i, some)))
      ∙ ap (λ x. x ∷ []) i
  one_among a (suc c) (suc j) h e =
      ap (λ t. cond t (a ∷ filter (λ x. D.holds m (pos x)) (multiples n (a + n) c))
      (filter (λ x. D.holds m (pos x)) (multiples n (a + n) c)))
      (only a (not_last a q n (j * n) (suc j * n) (suc-mul j n) e some))
      ∙ one_among (a + n) c j (omega (arith, h)) (next_by a n (j * n) (suc j * n) (suc-mul j n) ∙ e)

  one_offset : (size : ℕ) → q + n ≤ size → q % n ≡ 0
      → filter (λ x. D.holds m (pos x)) (offsets_in size n n) ≡ q ∷ []
  one_offset size h e =
      let mul : q ≡ q / n * n = exact q n e in
      let j : q / n ≤ (size - n) / n = (le-div_iff_mul-le {x = q / n} {y = size - n} some).1
      (enough size n q (q / n * n) mul h) in
      ap (λ t. filter (λ x. D.holds m (pos x)) (cond t (multiples n 0 ((size - n) / n + 1)) []))
      (le-leb n size (no_less n q size h))
      ∙ one_among 0 ((size - n) / n + 1) (q / n) (below_next (q / n) ((size - n) / n) j)
      (from_zero q (q / n * n) mul)

  module _ (sizes : List ℕ) (b size : ℕ) (s : slice_get sizes b ≡ Some size) (h : q + n ≤ size) where
    pub one_spot : q % n ≡ 0 → spots D sizes n n ((b, m) ∷ []) ≡ (b, q) ∷ []
    one_spot e =
        ap (λ o. held_spots D n n (b, m) o ++ []) s
        ∙ ap (λ qs. map (λ (q : ℕ). (b, q)) qs ++ []) (one_offset size h e)

    pub inside_one : bounds_of D sizes n ((b, m) ∷ []) ≡ None
    inside_one =
        ap (λ o. shows_if (leaves_block o n (D.range m) || false) (D.range m)) s
        ∙ ap (λ (r : ℤ × ℤ). shows_if ((int_lt r.0 (pos 0) || int_lt (pos size) (r.1 +ℤ pos n)) || false) (D.range m))
        single
        ∙ ap (λ t. shows_if ((t || int_lt (pos size) (pos q +ℤ pos n)) || false) (D.range m))
        (lt_false (pos q) (pos 0) (omega (arith, ints)))
        ∙ ap (λ t. shows_if (t || false) (D.range m))
        (lt_false (pos size) (pos q +ℤ pos n) (omega (arith, ints, h)))

  pub aligned_one : (b : ℕ) → q % n ≡ 0 → may_be_odd D n ((b, m) ∷ []) ≡ false
  aligned_one b e =
      ap (λ (r : ℤ × ℤ). is_some_odd D n m r.0 (unsigned_abs (r.1 -ℤ r.0) + 1) || false) single
      ∙ ap (λ c. is_some_odd D n m (pos q) c || false) (one_count q)
      ∙ ap (λ x. ((D.holds m (pos q) && not (nat_eq x 0)) || false) || false) e
      ∙ even_by (D.holds m (pos q))

-- ---- a pointer

module _ {N : Type 0} (D : Ops N) (law : Lawful D) where
  -- into this block, at this single offset
  pub record IsInto (o : Option (Value N)) (b q : ℕ) : Type 0 where
    pub n : N
    pub is : o ≡ Some (Ptr (one_target b n))
    pub single : IsSingle D n (pos q)

  pub one_into : (o : Option (Value N)) (b q : ℕ) → IsOneValue D o → Allows D Pointer o false (Some (into_block b q))
      → IsInto o b q
  one_into None b q i a = elim i [ ]
  one_into (Some (Num n)) b q i a = absurd a
  one_into (Some (Ptr p)) b q (one_pointer _ (only_null e)) a =
      absurd (subst (λ (p : Pointers N). HoldsPointer D p (into b q)) e a)
  one_into (Some (Ptr p)) b q (one_pointer _ (only_place c n z e i)) a =
      by_block (nat_eq c b) refl (subst (λ (p : Pointers N). HoldsPointer D p (into b q)) e a)
    where
      by_block : (t : Bool) → nat_eq c b ≡ t → IsSomeAnd (cond t (Some n) None) (λ (n : N). Holds D n (pos q))
          → IsInto (Some (Ptr p)) b q
      by_block true f h = record {
        n = n;
        is = ap (λ p. Some (Ptr p)) (e ∙ ap (λ c. one_target c n) (eqb-true c b f));
        single = subst (IsSingle D n) (sym (held_single D law n z (pos q) i h)) i;
      }
      by_block false f h = absurd h

  pub accesses_are_one : (sizes : List ℕ) (n : ℕ) (x : SideValue N) (b q : ℕ) → IsOneInto D x.value b q → 0 < n
      → IsPlaceFor sizes b q n → IsOneAccess D sizes n x b q
  accesses_are_one sizes n x b q one some at =
      let i = one_into x.value b q one.one one.allowed in
      record {
        not_null = ap (λ o. is_null D sizes (pointer_in o)) i.is;
        inside = ap (λ o. bounds_of D sizes n (targets_of D sizes (pointer_in o))) i.is
            ∙ inside_one D law n some i.n q i.single sizes b at.size at.of_block at.inside;
        aligned = ap (λ o. may_be_odd D n (targets_of D sizes (pointer_in o))) i.is
            ∙ aligned_one D law n some i.n q i.single b at.aligned;
        place = ap (λ o. spots D sizes n n (targets_of D sizes (pointer_in o))) i.is
            ∙ one_spot D law n some i.n q i.single sizes b at.size at.of_block at.inside at.aligned;
      }
