-- A place at which nothing may go wrong is inside its block and at a multiple.
use Rattle.std.proofs.Common.{◌≡◌, ℕ, zero, suc, ◌+◌, ◌%◌, ◌≤◌, ℤ, pos, ◌+ℤ◌, ◌-ℤ◌, ◌≤ℤ◌, ◌<ℤ◌, Bool, true, false}
use Rattle.ep_int.proofs.Arithmetic.{le_fact}
use Rattle.ep_evaluation.proofs.Arithmetic.{not_marked}
use Rattle.std.proofs.lemmas.Bool.{or_parts}
use Rattle.std.proofs.Common.{◌&&◌, ◌||◌, not, nat_eq, cond, List, [], ◌∷◌, slice_get, Option, Some, None, IsSomeAnd}
use Rattle.std.proofs.Common.{refl, sym, ap, ◌∙◌, subst, arith}
use Rattle.std.specs.Prelude.{int_le, int_lt, unsigned_abs}
use Rattle.std.proofs.lemmas.Int.{ints}
use Rattle.std.proofs.lemmas.Bool.{eqb-true}
use Rattle.ep_int.specs.Types.{residue}
use Rattle.ep_range_laws.proofs.Comparisons.{from_le_false, from_lt_false}
use Rattle.ep_domain.specs.Domain.{Ops, Lawful, Holds}
use Rattle.ep_pointers.specs.Value.{Target, offset_at}
use Rattle.ep_evaluation.specs.Accesses.{leaves_block, may_leave, offsets_range, bounds_of, is_some_odd, holds_odd}
use Rattle.ep_evaluation.specs.Accesses.{may_be_odd}

held_even : (a b : Bool) → a ≡ true → (a && not b) ≡ false → b ≡ true
held_even true true h e = refl
held_even true false h e = absurd cc
held_even false b h e = absurd cc

too_far : (z : ℤ) (q : ℕ) → z ≤ℤ pos q → pos q <ℤ (z +ℤ pos 0) → ⊥
too_far z q h i = omega (arith, ints, h, i)

same_number : (z : ℤ) (q : ℕ) → z ≤ℤ pos q → pos q ≤ℤ z → z ≡ pos q
same_number z q h i = omega (arith, ints, h, i)

next_low : (z : ℤ) (q : ℕ) → z <ℤ pos q → (z +ℤ pos 1) ≤ℤ pos q
next_low z q h = omega (arith, ints, h)

next_high : (z : ℤ) (q n : ℕ) → pos q <ℤ (z +ℤ pos (suc n)) → pos q <ℤ ((z +ℤ pos 1) +ℤ pos n)
next_high z q n h = omega (arith, ints, h)

module _ {N : Type 0} (D : Ops N) (law : Lawful D) (n : ℕ) where
  even_at : (a : N) (count : ℕ) (z : ℤ) (q : ℕ) → is_some_odd D n a z count ≡ false → Holds D a (pos q) → z ≤ℤ pos q
      → pos q <ℤ (z +ℤ pos count) → q % n ≡ 0
  even_at a zero z q e h low high = absurd (too_far z q low high)
  even_at a (suc c) z q e h low high =
      let r = or_parts (D.holds a z && not (nat_eq (residue n z) 0)) (is_some_odd D n a (z +ℤ pos 1) c) e in
      by_test (int_le (pos q) z) refl r.0
      (λ l. even_at a c (z +ℤ pos 1) q r.1 h (next_low z q l) (next_high z q c high))
    where
      by_test : (b : Bool) → int_le (pos q) z ≡ b → (D.holds a z && not (nat_eq (residue n z) 0)) ≡ false
          → (z <ℤ pos q → q % n ≡ 0) → q % n ≡ 0
      by_test true i f more =
          let s = same_number z q low (le_fact (pos q) z i) in
          eqb-true (q % n) 0 (held_even (D.holds a (pos q)) (nat_eq (q % n) 0) h
          (subst (λ x. (D.holds a x && not (nat_eq (residue n x) 0)) ≡ false) s f))
      by_test false i f more = more (from_le_false (pos q) z i)

  in_count : (r : ℤ × ℤ) (q : ℕ) → r.0 ≤ℤ pos q → pos q ≤ℤ r.1 → pos q <ℤ (r.0 +ℤ pos (unsigned_abs (r.1 -ℤ r.0) + 1))
  in_count r q h i = omega (arith, ints, h, i)

  even_held : (a : N) (q : ℕ) → holds_odd D n a ≡ false → Holds D a (pos q) → q % n ≡ 0
  even_held a q e h =
      let r = law.range_encloses a (pos q) h in
      even_at a (unsigned_abs ((D.range a).1 -ℤ (D.range a).0) + 1) (D.range a).0 q e h r.low
      (in_count (D.range a) q r.low r.high)

  pub even_there : (ts : List (Target N)) (b q : ℕ) → may_be_odd D n ts ≡ false
      → IsSomeAnd (offset_at ts b) (λ a. Holds D a (pos q)) → q % n ≡ 0
  even_there [] b q e h = absurd h
  even_there (t ∷ ts) b q e h =
      let r = or_parts (holds_odd D n t.1) (may_be_odd D n ts) e in
      by_block (nat_eq t.0 b) h r.0 (λ k. even_there ts b q r.1 k)
    where
      by_block : (c : Bool) → IsSomeAnd (cond c (Some t.1) (offset_at ts b)) (λ a. Holds D a (pos q))
          → holds_odd D n t.1 ≡ false
          → (IsSomeAnd (offset_at ts b) (λ a. Holds D a (pos q)) → q % n ≡ 0) → q % n ≡ 0
      by_block true k f more = even_held t.1 q f k
      by_block false k f more = more k

  in_block : (size q : ℕ) (r : ℤ × ℤ) → pos q ≤ℤ r.1 → (r.1 +ℤ pos n) ≤ℤ pos size → q + n ≤ size
  in_block size q r h i = omega (arith, ints, h, i)

  inside_by : (o : Option ℕ) (a : N) (q : ℕ) → leaves_block o n (D.range a) ≡ false → Holds D a (pos q)
      → (size : ℕ) × (o ≡ Some size) × (q + n ≤ size)
  inside_by None a q e h = absurd (let z : true ≡ false = e in cc)
  inside_by (Some size) a q e h =
      let r = or_parts (int_lt (D.range a).0 (pos 0)) (int_lt (pos size) ((D.range a).1 +ℤ pos n)) e in (
        size,
        refl,
        in_block size q (D.range a) (law.range_encloses a (pos q) h).high
            (from_lt_false (pos size) ((D.range a).1 +ℤ pos n) r.1),
      )

  module _ (sizes : List ℕ) where
    inside_at : (ts : List (Target N)) (b q : ℕ) → may_leave D sizes n ts ≡ false
        → IsSomeAnd (offset_at ts b) (λ a. Holds D a (pos q))
        → (size : ℕ) × (slice_get sizes b ≡ Some size) × (q + n ≤ size)
    inside_at [] b q e h = absurd h
    inside_at (t ∷ ts) b q e h =
        let r = or_parts (leaves_block (slice_get sizes t.0) n (D.range t.1)) (may_leave D sizes n ts) e in
        by_block (nat_eq t.0 b) refl h r.0 (λ k. inside_at ts b q r.1 k)
      where
        by_block : (c : Bool) → nat_eq t.0 b ≡ c
            → IsSomeAnd (cond c (Some t.1) (offset_at ts b)) (λ a. Holds D a (pos q))
            → leaves_block (slice_get sizes t.0) n (D.range t.1) ≡ false
            → (IsSomeAnd (offset_at ts b) (λ a. Holds D a (pos q))
            → (size : ℕ) × (slice_get sizes b ≡ Some size) × (q + n ≤ size))
            → (size : ℕ) × (slice_get sizes b ≡ Some size) × (q + n ≤ size)
        by_block true i k f more =
            let s = inside_by (slice_get sizes t.0) t.1 q f k in
            (s.0, ap (slice_get sizes) (sym (eqb-true t.0 b i)) ∙ s.1, s.2)
        by_block false i k f more = more k

    pub inside_there : (ts : List (Target N)) (b q : ℕ) → bounds_of D sizes n ts ≡ None
        → IsSomeAnd (offset_at ts b) (λ a. Holds D a (pos q))
        → (size : ℕ) × (slice_get sizes b ≡ Some size) × (q + n ≤ size)
    inside_there [] b q e h = absurd h
    inside_there (t ∷ ts) b q e h =
        inside_at (t ∷ ts) b q (not_marked (may_leave D sizes n (t ∷ ts)) (offsets_range D t ts) e) h
