-- The least and the greatest number of a pattern between two numbers.
use Rattle.std.proofs.Common.{◌≡◌, ℕ, ◌-◌, ◌%◌, ◌^◌, ◌<◌, ◌≤◌, ℤ, pos, negsuc, ◌-ℤ◌, ◌≤ℤ◌, Bool, true, false, not}
use Rattle.ep_int.proofs.Arithmetic.{le_fact, le_test}
use Rattle.ep_int.proofs.Basics.{true_and_false, not_not}
use Rattle.std.proofs.Common.{cond, ◌⊎◌, inl, inr, Option, Some, None, IsSomeAnd, IfSome, arith, refl, sym, ap, ◌∙◌}
use Rattle.std.specs.Prelude.{int_le}
use Rattle.std.specs.Option.{option_map}
use Rattle.std.specs.Int.{int_min, int_max}
use Rattle.std.proofs.Math.Nat.{mod-eq_of_lt}
use Rattle.std.proofs.lemmas.Int.{ints, clamps}
use Rattle.std.proofs.lemmas.Bool.{cases_lt}
use Rattle.ep_int.specs.declared.types.IntType.TheVariants.{I64, U64}
use Rattle.ep_int.specs.Types.{least_of, greatest_of}
use Rattle.ep_int.specs.Arith.{IsOfSomeType}
use Rattle.ep_range_laws.specs.Ranges.{LiesIn}
use Rattle.ep_range_laws.proofs.Comparisons.{le_trans}
use Rattle.ep_bit_laws.specs.Bits.{bit, bit_of}
use Rattle.ep_bit_laws.specs.Patterns.{Pattern, Has, IsPattern}
use Rattle.ep_bit_laws.specs.Edges.{first_at, least_positive, below_zero, or_positive, first_from, turned, last_to}
use Rattle.ep_bit_laws.specs.Edges.{edges_at, edges_from, edges_of}
use Rattle.ep_bit_laws.proofs.Bits.{bit_above, bit_within, bit_turned}
use Rattle.ep_bit_laws.proofs.Least.{Fits, first_is_least, least_fits, least_below}

-- a whole number of 65 bits with these bits
pub record Fits65 (z o : ℕ) (v : ℤ) : Type 0 where
  pub low : negsuc 18446744073709551615 ≤ℤ v
  pub high : v ≤ℤ pos 18446744073709551615
  pub zeros : (k : ℕ) → k < 65 → bit z k ≡ true → bit_of v k ≡ false
  pub ones : (k : ℕ) → k < 65 → bit o k ≡ true → bit_of v k ≡ true

place : (k : ℕ) → k < 65 → (k < 64) ⊎ (k ≡ 64)
place k l = by (cases_lt k 64)
  where
    by : (k < 64) ⊎ (64 ≤ k) → (k < 64) ⊎ (k ≡ 64)
    by (inl m) = inl m
    by (inr m) = inr (omega arith)

module _ (z o : ℕ) (a : (j : ℕ) → bit z j ≡ true → bit o j ≡ false) where
  positive_fits : (m : ℕ) → Fits z o 64 m → bit o 64 ≡ false → Fits65 z o (pos m)
  positive_fits m h e = record {
    low = omega (arith, ints);
    high = let l = h.below in omega (arith, ints);
    zeros = λ k l f. zero k (place k l) f;
    ones = λ k l f. one k (place k l) f;
  }
    where
      zero : (k : ℕ) → (k < 64) ⊎ (k ≡ 64) → bit z k ≡ true → bit m k ≡ false
      zero k (inl l) f = h.zeros k l f
      zero k (inr i) f = bit_above m 64 k h.below (omega arith)

      one : (k : ℕ) → (k < 64) ⊎ (k ≡ 64) → bit o k ≡ true → bit m k ≡ true
      one k (inl l) f = h.ones k l f
      one k (inr i) f = absurd (true_and_false _ (ap (bit o) (sym i) ∙ f) e)

  from_positive : (m : ℕ) → Fits65 z o (pos m) → Fits z o 64 m × (bit o 64 ≡ false)
  from_positive m h = (
    record {
      below = small;
      zeros = λ k l e. h.zeros k (omega arith) e;
      ones = λ k l e. h.ones k
          (omega arith) e;
    },
    at (bit o 64) refl,
  )
    where
      small : m < 2 ^ 64
      small = let l = h.high in omega (arith, ints)

      at : (b : Bool) → bit o 64 ≡ b → b ≡ false
      at false e = refl
      at true e = absurd (true_and_false _ (h.ones 64 (omega arith) e) (bit_above m 64 64 small (omega arith)))

  bit_below_zero : (m k : ℕ) → m < 2 ^ 64 → k < 64 → bit_of (below_zero m) k ≡ bit m k
  bit_below_zero m k h l = ap not (bit_turned 64 m k h l) ∙ not_not (bit m k)

  negative_fits : (m : ℕ) → Fits z o 64 m → bit z 64 ≡ false → Fits65 z o (below_zero m)
  negative_fits m h e = record {
    low = let l = h.below in omega (arith, ints);
    high = omega (arith, ints);
    zeros = λ k l f. zero k (place k l) f;
    ones = λ k l f. one k (place k l) f;
  }
    where
      zero : (k : ℕ) → (k < 64) ⊎ (k ≡ 64) → bit z k ≡ true → bit_of (below_zero m) k ≡ false
      zero k (inl l) f = bit_below_zero m k h.below l ∙ h.zeros k l f
      zero k (inr i) f = absurd (true_and_false _ (ap (bit z) (sym i) ∙ f) e)

      one : (k : ℕ) → (k < 64) ⊎ (k ≡ 64) → bit o k ≡ true → bit_of (below_zero m) k ≡ true
      one k (inl l) f = bit_below_zero m k h.below l ∙ h.ones k l f
      one k (inr i) f = ap not (bit_above (2 ^ 64 - 1 - m) 64 k (omega arith) (omega arith))

  from_negative : (m : ℕ) → Fits65 z o (negsuc m) → Fits z o 64 (2 ^ 64 - 1 - m) × (bit z 64 ≡ false)
  from_negative m h = (
    record {
      below = omega arith;
      zeros = λ k l e. bit_turned 64 m k small l ∙ h.zeros k (omega arith) e;
      ones = λ k l e. bit_turned 64 m k small l ∙ h.ones k (omega arith) e;
    },
    at (bit z 64) refl,
  )
    where
      small : m < 2 ^ 64
      small = let l = h.low in omega (arith, ints)

      at : (b : Bool) → bit z 64 ≡ b → b ≡ false
      at false e = refl
      at true e = absurd (true_and_false _ (ap not (bit_above m 64 64 small (omega arith))) (h.zeros 64 (omega arith) e))

  -- ---- the least from a number on

  Found : ℤ → Option ℤ → Type 0
  Found l r = IfSome r (λ v. Fits65 z o v × (l ≤ℤ v))

  least_positive_found : (n : ℕ) → Found (negsuc n) (least_positive z o)
  unfolding Found
  least_positive_found n = at (bit o 64) refl
    where
      at : (b : Bool) → bit o 64 ≡ b → IfSome (cond b None (Some (pos (o % 2 ^ 64))))
          (λ v. Fits65 z o v × (negsuc n ≤ℤ v))
      at true e = tt
      at false e = (positive_fits (o % 2 ^ 64) (least_fits z o 0 64 a) e, omega (arith, ints))

  pub first_found : (l : ℤ) → negsuc 18446744073709551615 ≤ℤ l → l ≤ℤ pos 18446744073709551615 → IfSome
      (first_from z o l) (λ v. Fits65 z o v × (l ≤ℤ v))
  unfolding Found
  first_found (pos n) p q = at (bit o 64) refl
    where
      of_map : (r : Option ℕ) → IfSome r (λ m. Fits z o 64 m × (n % 2 ^ 64 ≤ m)) → bit o 64 ≡ false → IfSome
          (option_map pos r) (λ v. Fits65 z o v × (pos n ≤ℤ v))
      of_map None h e = tt
      of_map (Some m) h e = (
        positive_fits m h.0 e,
        let l = h.1 in let s : n % 2 ^ 64 ≡ n = mod-eq_of_lt
            (omega (arith, ints)) in omega (arith, ints),
      )

      at : (b : Bool) → bit o 64 ≡ b → IfSome (cond b None (option_map pos (first_at z o n 64)))
          (λ v. Fits65 z o v × (pos n ≤ℤ v))
      at true e = tt
      at false e = of_map (first_at z o n 64) (first_is_least z o n 64 a).found e
  first_found (negsuc n) p q = at (bit z 64) refl
    where
      of_map : (r : Option ℕ) → IfSome r (λ m. Fits z o 64 m × ((2 ^ 64 - 1 - n) % 2 ^ 64 ≤ m)) → bit z 64 ≡ false
          → IfSome (or_positive z o (option_map below_zero r)) (λ v. Fits65 z o v × (negsuc n ≤ℤ v))
      of_map None h e = least_positive_found n
      of_map (Some m) h e = (
        negative_fits m h.0 e,
        let l = h.1 in let s :
            (2 ^ 64 - 1 - n) % 2 ^ 64 ≡ 2 ^ 64 - 1 - n = mod-eq_of_lt (omega arith) in let f = h.0.below in omega
            (arith, ints),
      )

      at : (b : Bool) → bit z 64 ≡ b → IfSome (or_positive z o
          (cond b None (option_map below_zero (first_at z o (2 ^ 64 - 1 - n) 64))))
          (λ v. Fits65 z o v × (negsuc n ≤ℤ v))
      at true e = least_positive_found n
      at false e = of_map (first_at z o (2 ^ 64 - 1 - n) 64) (first_is_least z o (2 ^ 64 - 1 - n) 64 a).found e

  pub first_least : (l v : ℤ) → Fits65 z o v → l ≤ℤ v → negsuc 18446744073709551615 ≤ℤ l → IsSomeAnd
      (first_from z o l) (λ f. f ≤ℤ v)
  first_least (pos n) (negsuc m) h k p = absurd (omega (arith, ints))
  first_least (pos n) (pos m) h k p = at (bit o 64) (from_positive m h).1
    where
      of_map : (r : Option ℕ) → IsSomeAnd r (λ f. f ≤ m) → IsSomeAnd (option_map pos r) (λ f. f ≤ℤ pos m)
      of_map None h = h
      of_map (Some f) h = omega (arith, ints)

      at : (b : Bool) → b ≡ false → IsSomeAnd (cond b None (option_map pos (first_at z o n 64))) (λ f. f ≤ℤ pos m)
      at true e = absurd cc
      at false e =
          let s : n % 2 ^ 64 ≡ n = mod-eq_of_lt (let u = h.high in omega (arith, ints)) in
          of_map (first_at z o n 64) ((first_is_least z o n 64 a).least m (from_positive m h).0
          (let g = k in omega (arith, ints)))
  first_least (negsuc n) (pos m) h k p = at (cond (bit z 64) None
      (option_map below_zero (first_at z o (2 ^ 64 - 1 - n) 64)))
      (negative (bit z 64) (first_at z o (2 ^ 64 - 1 - n) 64))
    where
      negative : (b : Bool) (r : Option ℕ) → IfSome (cond b None (option_map below_zero r)) (λ f. f ≤ℤ pos m)
      negative true r = tt
      negative false None = tt
      negative false (Some f) = omega (arith, ints)

      positive : (b : Bool) → b ≡ false → IsSomeAnd (cond b None (Some (pos (o % 2 ^ 64)))) (λ f. f ≤ℤ pos m)
      positive true e = absurd cc
      positive false e = let l = least_below z o 0 64 m (from_positive m h).0 in omega (arith, ints)

      at : (r : Option ℤ) → IfSome r (λ f. f ≤ℤ pos m) → IsSomeAnd (or_positive z o r) (λ f. f ≤ℤ pos m)
      at None q = positive (bit o 64) (from_positive m h).1
      at (Some f) q = q
  first_least (negsuc n) (negsuc m) h k p = at (bit z 64) (from_negative m h).1
    where
      of_map : (r : Option ℕ) → IsSomeAnd r (λ f. f ≤ 2 ^ 64 - 1 - m) → IsSomeAnd
          (or_positive z o (option_map below_zero r)) (λ f. f ≤ℤ negsuc m)
      of_map None h = absurd h
      of_map (Some f) q = let l = h.low in omega (arith, ints)

      at : (b : Bool) → b ≡ false → IsSomeAnd (or_positive z o
          (cond b None (option_map below_zero (first_at z o (2 ^ 64 - 1 - n) 64)))) (λ f. f ≤ℤ negsuc m)
      at true e = absurd cc
      at false e =
          let s : (2 ^ 64 - 1 - n) % 2 ^ 64 ≡ 2 ^ 64 - 1 - n = mod-eq_of_lt (omega arith) in
          of_map (first_at z o (2 ^ 64 - 1 - n) 64)
          ((first_is_least z o (2 ^ 64 - 1 - n) 64 a).least (2 ^ 64 - 1 - m) (from_negative m h).0
          (let g = k in omega (arith, ints)))

-- ---- with all bits turned

bit_of_turned : (v : ℤ) (k : ℕ) → bit_of (turned v) k ≡ not (bit_of v k)
bit_of_turned (pos n) k = refl
bit_of_turned (negsuc n) k = sym (not_not (bit n k))

turned_is : (v : ℤ) → turned v ≡ negsuc 0 -ℤ v
turned_is (pos n) = omega (arith, ints)
turned_is (negsuc n) = omega (arith, ints)

turned_fits : (z o : ℕ) (v : ℤ) → Fits65 z o v → Fits65 o z (turned v)
turned_fits z o v h = let e = turned_is v in let l = h.low in let u = h.high in record {
  low = omega (arith, ints);
  high = omega (arith, ints);
  zeros = λ k l e. bit_of_turned v k ∙ ap not (h.ones k l e);
  ones = λ k l e. bit_of_turned v k ∙ ap not (h.zeros k l e);
}

turned_twice : (v : ℤ) → turned (turned v) ≡ v
turned_twice (pos n) = refl
turned_twice (negsuc n) = refl

module _ (z o : ℕ) (a : (j : ℕ) → bit z j ≡ true → bit o j ≡ false) where
  other : (j : ℕ) → bit o j ≡ true → bit z j ≡ false
  other j e = at (bit z j) refl
    where
      at : (b : Bool) → bit z j ≡ b → b ≡ false
      at false f = refl
      at true f = absurd (true_and_false _ e (a j f))

  last_found : (u : ℤ) → negsuc 18446744073709551615 ≤ℤ u → u ≤ℤ pos 18446744073709551615 → IfSome (last_to z o u)
      (λ v. Fits65 z o v × (v ≤ℤ u))
  last_found u p q = of_map (first_from o z (turned u))
      (let e = turned_is u in first_found o z other (turned u) (omega (arith, ints)) (omega (arith, ints)))
    where
      of_map : (r : Option ℤ) → IfSome r (λ v. Fits65 o z v × (turned u ≤ℤ v)) → IfSome (option_map turned r)
          (λ v. Fits65 z o v × (v ≤ℤ u))
      of_map None h = tt
      of_map (Some v) h = (
        turned_fits o z v h.0,
        let e = turned_is u in let f = turned_is v in let l = h.1 in omega
            (arith, ints),
      )

  last_greatest : (u v : ℤ) → Fits65 z o v → v ≤ℤ u → u ≤ℤ pos 18446744073709551615 → IsSomeAnd (last_to z o u)
      (λ g. v ≤ℤ g)
  last_greatest u v h k p = of_map (first_from o z (turned u))
      (let e = turned_is u in let f = turned_is v in first_least o z other (turned u) (turned v) (turned_fits z o v h)
      (omega (arith, ints)) (omega (arith, ints)))
    where
      of_map : (r : Option ℤ) → IsSomeAnd r (λ f. f ≤ℤ turned v) → IsSomeAnd (option_map turned r) (λ g. v ≤ℤ g)
      of_map None h = h
      of_map (Some f) h = let e = turned_is v in let g = turned_is f in omega (arith, ints)

-- ---- both

-- the ends are members, from the one number to the other
pub record AreEnds (p : Pattern) (lo hi : ℤ) (e : ℤ × ℤ) : Type 0 where
  pub first : Has p e.0
  pub last : Has p e.1
  pub low : lo ≤ℤ e.0
  pub ordered : e.0 ≤ℤ e.1
  pub high : e.1 ≤ℤ hi

has_fits : (p : Pattern) (v : ℤ) → Has p v → Fits65 p.zeros p.ones v
has_fits p v h = let l = h.number.low in let u = h.number.high in record {
  low = omega (arith, ints);
  high = omega (arith, ints);
  zeros = λ k l e. h.zeros k e;
  ones = λ k l e. h.ones k e;
}

fits_has : (p : Pattern) (v : ℤ) → IsPattern p → Fits65 p.zeros p.ones v → IsOfSomeType v → Has p v
fits_has p v i h n = record {
  number = n;
  zeros = λ k e. h.zeros k (bit_within p.zeros 65 k i.zeros_below e) e;
  ones = λ k e. h.ones k (bit_within p.ones 65 k i.ones_below e) e;
}

module _ (p : Pattern) (i : IsPattern p) where
  from_between : (l u : ℤ) → IsOfSomeType l → IsOfSomeType u → IfSome (edges_from p l u) (AreEnds p l u)
  from_between l u m n =
      let x = m.low in let y = m.high in let x' = n.low in let y' = n.high in
      at (first_from p.zeros p.ones l) (last_to p.zeros p.ones u)
      (first_found p.zeros p.ones i.apart l (omega (arith, ints)) (omega (arith, ints)))
      (last_found p.zeros p.ones i.apart u (omega (arith, ints)) (omega (arith, ints)))
    where
      both : (f g : ℤ) → Fits65 p.zeros p.ones f × (l ≤ℤ f) → Fits65 p.zeros p.ones g × (g ≤ℤ u) → (b : Bool)
          → int_le f g ≡ b → IfSome (cond b (Some (f, g)) None) (AreEnds p l u)
      both f g h k false e = tt
      both f g h k true e =
          let o = le_fact f g e in let a = h.1 in let b = k.1 in let x = m.low in let y = n.high in
          record {
            first = fits_has p f i h.0 (record { low = omega (arith, ints); high = omega (arith, ints) });
            last = fits_has p g i k.0 (record { low = omega (arith, ints); high = omega (arith, ints) });
            low = h.1;
            ordered = o;
            high = k.1;
          }

      at : (r s : Option ℤ) → IfSome r (λ v. Fits65 p.zeros p.ones v × (l ≤ℤ v)) → IfSome s
          (λ v. Fits65 p.zeros p.ones v × (v ≤ℤ u)) → IfSome (edges_at r s) (AreEnds p l u)
      at (Some f) (Some g) h k = both f g h k (int_le f g) refl
      at (Some f) None h k = tt
      at None s h k = tt

  all_between : (l u v : ℤ) → IsOfSomeType l → IsOfSomeType u → Has p v → l ≤ℤ v → v ≤ℤ u → IsSomeAnd
      (edges_from p l u) (λ e. LiesIn e v)
  all_between l u v m n h j k =
      let x = m.low in let y = n.high in
      at (first_from p.zeros p.ones l) (last_to p.zeros p.ones u)
      (first_least p.zeros p.ones i.apart l v (has_fits p v h) j (omega (arith, ints)))
      (last_greatest p.zeros p.ones i.apart u v (has_fits p v h) k (omega (arith, ints)))
    where
      at : (r s : Option ℤ) → IsSomeAnd r (λ f. f ≤ℤ v) → IsSomeAnd s (λ g. v ≤ℤ g) → IsSomeAnd (edges_at r s)
          (λ e. LiesIn e v)
      at None s h k = absurd h
      at (Some f) None h k = absurd k
      at (Some f) (Some g) h k = by (int_le f g) (le_test f g (le_trans f v g h k))
        where
          by : (b : Bool) → b ≡ true → IsSomeAnd (cond b (Some (f, g)) None) (λ e. LiesIn e v)
          by true e = record { low = h; high = k }
          by false e = absurd cc

  -- the ends are the least and the greatest number there
  pub edges_are_ends : (lo hi : ℤ) → IfSome (edges_of p lo hi) (AreEnds p lo hi)
  edges_are_ends lo hi = at (int_le (int_max lo (least_of I64)) (int_min hi (greatest_of U64))) refl
    where
      wide : (r : Option (ℤ × ℤ)) → IfSome r (AreEnds p (int_max lo (least_of I64)) (int_min hi (greatest_of U64)))
          → IfSome r (AreEnds p lo hi)
      wide None h = tt
      wide (Some e) h = let a = h.low in let b = h.high in record {
        first = h.first;
        last = h.last;
        low = omega
            (arith, ints, clamps);
        ordered = h.ordered;
        high = omega (arith, ints, clamps);
      }

      at : (b : Bool) → int_le (int_max lo (least_of I64)) (int_min hi (greatest_of U64)) ≡ b → IfSome
          (cond b (edges_from p (int_max lo (least_of I64)) (int_min hi (greatest_of U64))) None) (AreEnds p lo hi)
      at false e = tt
      at true e =
          let o = le_fact (int_max lo (least_of I64)) (int_min hi (greatest_of U64)) e in
          wide (edges_from p (int_max lo (least_of I64)) (int_min hi (greatest_of U64)))
          (from_between (int_max lo (least_of I64)) (int_min hi (greatest_of U64))
          (record { low = omega (arith, ints, clamps); high = omega (arith, ints, clamps) })
          (record { low = omega (arith, ints, clamps); high = omega (arith, ints, clamps) }))

  pub edges_enclose : (lo hi v : ℤ) → Has p v → lo ≤ℤ v → v ≤ℤ hi → IsSomeAnd (edges_of p lo hi) (λ e. LiesIn e v)
  edges_enclose lo hi v h j k = at (int_le (int_max lo (least_of I64)) (int_min hi (greatest_of U64)))
      (le_test (int_max lo (least_of I64)) (int_min hi (greatest_of U64))
      (let x = h.number.low in let y = h.number.high in omega (arith, ints, clamps)))
    where
      at : (b : Bool) → b ≡ true → IsSomeAnd (cond b
          (edges_from p (int_max lo (least_of I64)) (int_min hi (greatest_of U64))) None) (λ e. LiesIn e v)
      at false e = absurd cc
      at true e =
          let x = h.number.low in let y = h.number.high in
          all_between (int_max lo (least_of I64)) (int_min hi (greatest_of U64)) v
          (record { low = omega (arith, ints, clamps); high = omega (arith, ints, clamps) })
          (record { low = omega (arith, ints, clamps); high = omega (arith, ints, clamps) }) h
          (omega (arith, ints, clamps)) (omega (arith, ints, clamps))
