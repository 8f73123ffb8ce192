-- The places of an access, among the multiples of its size.
use Rattle.std.proofs.Common.{◌≡◌, ℕ, zero, suc, ◌+◌, ◌-◌, ◌*◌, ◌/◌, ◌<◌, ◌≤◌, ℤ, pos, ◌<ℤ◌, ◌≤ℤ◌, ◌⊎◌, inl, inr}
use Rattle.std.proofs.Common.{Bool, true, false, nat_le, int_le, unsigned_abs, cond, List, [], ◌∷◌, ◌++◌, map, Some}
use Rattle.std.proofs.Common.{min, append_assoc, refl, sym, ap, ◌∙◌, subst, arith}
use Rattle.std.specs.List.{filter}
use Rattle.std.proofs.Math.Nat.{le-div_iff_mul-le, div-lt_iff_lt-mul}
use Rattle.std.proofs.lemmas.Bool.{false≢true}
use Rattle.std.proofs.lemmas.Bool.Decides.{nat_tests}
use Rattle.std.proofs.lemmas.Int.{ints}
use Rattle.std.proofs.lemmas.List.{map-append}
use Rattle.std.proofs.lemmas.List.Elements.{filter-append}
use Rattle.ep_range_laws.specs.Ranges.{LiesIn}
use Rattle.ep_domain.specs.Domain.{Ops, Lawful}
use Rattle.ep_cell_ranges.specs.Spots.{Spot}
use Rattle.ep_evaluation.specs.Accesses.{multiples, offsets_in, held_spots}
use Rattle.ep_eval_places.specs.Offsets.{nearest_offset}

suc_times : (q a n : ℕ) → (q + a) + n * a ≡ q + suc n * a
suc_times q a n = omega arith

multiples_more : (a q n : ℕ) → multiples a q (suc n) ≡ multiples a q n ++ (q + n * a) ∷ []
multiples_more a q zero = ap (λ r. r ∷ []) (omega arith)
multiples_more a q (suc n) =
    ap (λ qs. q ∷ qs) (multiples_more a (q + a) n ∙ ap (λ r. multiples a (q + a) n ++ r ∷ []) (suc_times q a n))

-- ---- where no number is

below : (n x j : ℕ) → 0 < n → j < x / n → j * n < x
below n x j p h =
    let w : suc j * n ≤ x = (le-div_iff_mul-le {k = n} {x = suc j} {y = x} p).0 (omega (arith, h)) in
    let e : suc j * n ≡ n + j * n = omega arith in
    omega (arith, w, e, p)

above : (n x j : ℕ) → 0 < n → x / n < j → x < j * n
above n x j p h = (div-lt_iff_lt-mul {k = n} {x = x} {y = j} p).0 h

-- the nearest offset isn't above a number that is above 0
nearest_low : (size : ℕ) (z : ℤ) (k : ℕ) → k < nearest_offset size z → pos k <ℤ z
nearest_low size z k h = grind (arith, ints, nat_tests)

nearest_high : (size : ℕ) (z : ℤ) (k : ℕ) → nearest_offset size z < k → k ≤ size → z <ℤ pos k
nearest_high size z k h i = grind (arith, ints, nat_tests)

module _ {N : Type 0} (D : Ops N) (law : Lawful D) (b : ℕ) (a : N) (n : ℕ) where
  not_below : (z : ℤ) → z <ℤ (D.range a).0 → D.holds a z ≡ false
  not_below z h = split (D.holds a z) refl
    where
      split : (t : Bool) → D.holds a z ≡ t → t ≡ false
      split false e = refl
      split true e = let l = law.range_encloses a z e in absurd (omega (arith, ints, h, l.low))

  not_above : (z : ℤ) → (D.range a).1 <ℤ z → D.holds a z ≡ false
  not_above z h = split (D.holds a z) refl
    where
      split : (t : Bool) → D.holds a z ≡ t → t ≡ false
      split false e = refl
      split true e = let l = law.range_encloses a z e in absurd (omega (arith, ints, h, l.high))

  abbrev test : ℕ → Bool
  test q = D.holds a (pos q)

  abbrev there : ℕ → Spot
  there q = (b, q)

  abbrev pub held : ℕ → List Spot
  held k = map there (filter test (multiples n 0 k))

  more : (k : ℕ) → held (suc k) ≡ held k ++ map there (filter test (k * n ∷ []))
  more k =
      ap (λ qs. map there (filter test qs)) (multiples_more n 0 k ∙ ap (λ r. multiples n 0 k ++ r ∷ []) (omega arith))
      ∙ ap (map there) (filter-append test (multiples n 0 k) (k * n ∷ []))
      ∙ map-append there (filter test (multiples n 0 k)) (filter test (k * n ∷ []))

  append_none : (xs : List Spot) → xs ++ [] ≡ xs
  append_none [] = refl
  append_none (x ∷ xs) = ap (λ ys. x ∷ ys) (append_none xs)

  -- whether the next multiple is there
  pub held_step : (k : ℕ) → held (k + 1) ≡ held k ++ cond (D.holds a (pos (k * n))) ((b, k * n) ∷ []) []
  held_step k = ap held (add_one k) ∙ more k ∙ ap (λ xs. held k ++ xs) (split (D.holds a (pos (k * n))))
    where
      add_one : (x : ℕ) → x + 1 ≡ suc x
      add_one x = omega arith

      split : (t : Bool) → map there (cond t (k * n ∷ []) []) ≡ cond t ((b, k * n) ∷ []) []
      split true = refl
      split false = refl

  held_not : (k : ℕ) → D.holds a (pos (k * n)) ≡ false → held (suc k) ≡ held k
  held_not k h = more k ∙ ap (λ t. held k ++ map there (cond t (k * n ∷ []) [])) h ∙ append_none (held k)

  held_same : (d k : ℕ) → ((j : ℕ) → k ≤ j → j < k + d → D.holds a (pos (j * n)) ≡ false) → held (k + d) ≡ held k
  held_same zero k h = ap held (omega arith)
  held_same (suc d) k h =
      let e : k + suc d ≡ suc (k + d) = omega arith in
      ap held e
      ∙ held_not (k + d) (h (k + d) (omega arith) (omega arith))
      ∙ held_same d k (λ j l m. h j l (omega (arith, m)))

  pub held_first : (size k : ℕ) → 0 < n → k ≤ nearest_offset size (D.range a).0 / n → held k ≡ []
  held_first size k p h =
      ap held (sym (zero_plus k))
      ∙ held_same k 0 (λ j l m. not_below (pos (j * n)) (nearest_low size (D.range a).0 (j * n)
      (below n (nearest_offset size (D.range a).0) j p (omega (arith, m, h)))))
    where
      zero_plus : (x : ℕ) → 0 + x ≡ x
      zero_plus x = omega arith

  -- an offset of the block
  pub inside : (size j : ℕ) → 0 < n → n ≤ size → j ≤ (size - n) / n → j * n ≤ size
  inside size j p h l =
      let w : j * n ≤ size - n = (le-div_iff_mul-le {k = n} {x = j} {y = size - n} p).0 l in
      omega (arith, w, h)

  held_whole : (size : ℕ) → n ≤ size → held ((size - n) / n + 1) ≡ held_spots D n n (b, a) (Some size)
  held_whole size h =
      sym (ap (λ t. map there (filter test (cond t (multiples n 0 ((size - n) / n + 1)) []))) (is_le n size h))
    where
      is_le : (x y : ℕ) → x ≤ y → nat_le x y ≡ true
      is_le x y l = grind (arith, nat_tests)

  past : (size j : ℕ) → 0 < n → n ≤ size → nearest_offset size (D.range a).1 / n + 1 ≤ j → j ≤ (size - n) / n
      → D.holds a (pos (j * n)) ≡ false
  past size j p h l m =
      not_above (pos (j * n)) (nearest_high size (D.range a).1 (j * n)
      (above n (nearest_offset size (D.range a).1) j p (omega (arith, l))) (inside size j p h m))

  pub held_last : (size u stop : ℕ) → 0 < n → n ≤ size → u ≡ nearest_offset size (D.range a).1 / n
      → stop ≡ min u ((size - n) / n) + 1 → held stop ≡ held_spots D n n (b, a) (Some size)
  held_last size u stop p h e q =
      sym (ap held {x = (size - n) / n + 1} {y = stop + (((size - n) / n + 1) - stop)} (rest u ((size - n) / n) stop q)
      ∙ held_same (((size - n) / n + 1) - stop) stop
      (λ j l m. past size j p h (later u (nearest_offset size (D.range a).1 / n) ((size - n) / n) stop j e q l m)
      (earlier ((size - n) / n) stop j (whole u ((size - n) / n) stop q) l m)))
      ∙ held_whole size h
    where
      whole : (u v s : ℕ) → s ≡ min u v + 1 → s ≤ v + 1
      whole u v s q = omega (arith, q)

      rest : (u v s : ℕ) → s ≡ min u v + 1 → v + 1 ≡ s + ((v + 1) - s)
      rest u v s q = omega (arith, q)

      later : (u w v s j : ℕ) → u ≡ w → s ≡ min u v + 1 → s ≤ j → j < s + ((v + 1) - s) → w + 1 ≤ j
      later u w v s j e q l m = omega (arith, e, q, l, m)

      earlier : (v s j : ℕ) → s ≤ v + 1 → s ≤ j → j < s + ((v + 1) - s) → j ≤ v
      earlier v s j w l m = omega (arith, w, l, m)

  -- none at the beginning, and all at the end, behind what was there
  pub held_begin : (out : List Spot) (size u k : ℕ) → 0 < n → u ≡ nearest_offset size (D.range a).0 / n → k ≤ u
      → out ≡ out ++ held k
  held_begin out size u k p e h =
      sym (ap (λ xs. out ++ xs) (held_first size k p (subst (λ v. k ≤ v) e h)) ∙ append_none out)

  pub held_more : (out now new : List Spot) (k : ℕ) → now ≡ out ++ held k
      → new ≡ now ++ cond (D.holds a (pos (k * n))) ((b, k * n) ∷ []) [] → new ≡ out ++ held (k + 1)
  held_more out now new k e q =
      q ∙ ap (λ xs. xs ++ cond (D.holds a (pos (k * n))) ((b, k * n) ∷ []) []) e
      ∙ append_assoc out (held k) (cond (D.holds a (pos (k * n))) ((b, k * n) ∷ []) [])
      ∙ ap (λ xs. out ++ xs) (sym (held_step k))
