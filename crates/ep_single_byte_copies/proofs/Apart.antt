-- Two places of bytes, each known as one alone, that have no byte in common: no overlap is told of them.
use Rattle.std.proofs.Common.{◌≡◌, ℕ, ◌+◌, ◌≤◌, ℤ, pos, ◌-ℤ◌, ◌≤ℤ◌, ◌<ℤ◌, Bool, true, false, ◌&&◌, ◌||◌, not, nat_eq}
use Rattle.std.proofs.Common.{nat_lt, if◌then◌else◌, ◌⊎◌, inl, inr, List, [], ◌∷◌, refl, ap, ◌∙◌, arith}
use Rattle.std.specs.Prelude.{int_le}
use Rattle.std.specs.List.{list_any}
use Rattle.std.proofs.lemmas.Bool.{ltb-false}
use Rattle.std.proofs.lemmas.Int.{ints}
use Rattle.ep_int.specs.Memory.{overlaps}
use Rattle.ep_int.proofs.Arithmetic.{le_fact}
use Rattle.ep_domain.specs.Domain.{Ops, Lawful}
use Rattle.ep_cell_ranges.specs.Spots.{Spot}
use Rattle.ep_equalities.specs.declared.pair.SideValue.{SideValue}
use Rattle.ep_evaluation.specs.Operators.{pointer_in}
use Rattle.ep_evaluation.specs.Evaluation.{targets_of}
use Rattle.ep_range_laws.proofs.Comparisons.{le_false, from_le_false, le_self}
use Rattle.ep_transfers.specs.Copies.{larger, smaller, may_be_between, ranges_overlap, target_overlaps, may_overlap}
use Rattle.ep_transfers.proofs.Located.{AreFree}
use Rattle.ep_single_places.specs.Laws.{IsOneInto}
use Rattle.ep_single_places.proofs.Places.{one_into}

-- ---- numbers

weaker : (a b : ℤ) → a <ℤ b → a ≤ℤ b
weaker a b h = omega (arith, ints, h)

chain : (s c a l : ℤ) → s ≤ℤ c → c <ℤ a → a ≤ℤ l → s <ℤ l
chain s c a l f g h = omega (arith, ints, f, g, h)

behind : (n q r : ℕ) → r + n ≤ q → (pos n -ℤ pos 1) <ℤ (pos q -ℤ pos r)
behind n q r h = omega (arith, ints, h)

before : (n q r : ℕ) → q + n ≤ r → (pos q -ℤ pos r) <ℤ (pos 1 -ℤ pos n)
before n q r h = omega (arith, ints, h)

not_both : (x y : Bool) → (x && y) ≡ false → (x ≡ false) ⊎ (y ≡ false)
not_both true y e = inr e
not_both false y e = inl refl

no_byte : (q r n : ℕ) → (nat_lt q (r + n) && nat_lt r (q + n)) ≡ false → (r + n ≤ q) ⊎ (q + n ≤ r)
no_byte q r n e = by (not_both (nat_lt q (r + n)) (nat_lt r (q + n)) e)
  where
    by : (nat_lt q (r + n) ≡ false) ⊎ (nat_lt r (q + n) ≡ false) → (r + n ≤ q) ⊎ (q + n ≤ r)
    by (inl h) = inl (ltb-false q (r + n) h)
    by (inr h) = inr (ltb-false r (q + n) h)

module _ {N : Type 0} (D : Ops N) where
  above_first : (a b : ℤ) → a ≤ℤ larger D a b
  above_first a b = by (int_le a b) refl
    where
      by : (t : Bool) → int_le a b ≡ t → a ≤ℤ (if t then b else a)
      by true e = le_fact a b e
      by false e = le_self a

  above_second : (a b : ℤ) → b ≤ℤ larger D a b
  above_second a b = by (int_le a b) refl
    where
      by : (t : Bool) → int_le a b ≡ t → b ≤ℤ (if t then b else a)
      by true e = le_self b
      by false e = weaker b a (from_le_false a b e)

  below_first : (a b : ℤ) → smaller D a b ≤ℤ a
  below_first a b = by (int_le a b) refl
    where
      by : (t : Bool) → int_le a b ≡ t → (if t then a else b) ≤ℤ a
      by true e = le_self a
      by false e = weaker b a (from_le_false a b e)

  below_second : (a b : ℤ) → smaller D a b ≤ℤ b
  below_second a b = by (int_le a b) refl
    where
      by : (t : Bool) → int_le a b ≡ t → (if t then a else b) ≤ℤ b
      by true e = le_fact a b e
      by false e = le_self b

  crossed : (a b c : ℤ) → (c <ℤ a) ⊎ (a <ℤ b) → int_le (larger D a b) (smaller D a c) ≡ false
  crossed a b c (inl h) =
      le_false (larger D a b) (smaller D a c)
      (chain (smaller D a c) c a (larger D a b) (below_second a c) h (above_first a b))
  crossed a b c (inr h) =
      le_false (larger D a b) (smaller D a c)
      (chain (smaller D a c) a b (larger D a b) (below_first a c) h (above_second a b))

  not_between : (lo hi : ℤ) → int_le lo hi ≡ false → may_be_between D false lo hi ≡ false
  not_between lo hi e = ap (λ t. t && not (false && (int_le (pos 0) lo && int_le hi (pos 0)))) e

  distance : (n q r : ℕ) → (r + n ≤ q) ⊎ (q + n ≤ r)
      → ((pos n -ℤ pos 1) <ℤ (pos q -ℤ pos r)) ⊎ ((pos q -ℤ pos r) <ℤ (pos 1 -ℤ pos n))
  distance n q r (inl h) = inl (behind n q r h)
  distance n q r (inr h) = inr (before n q r h)

  ranges_apart : (n q r : ℕ) → (r + n ≤ q) ⊎ (q + n ≤ r)
      → ranges_overlap D false n (pos q, pos q) (pos r, pos r) ≡ false
  ranges_apart n q r h =
      not_between (larger D (pos q -ℤ pos r) (pos 1 -ℤ pos n)) (smaller D (pos q -ℤ pos r) (pos n -ℤ pos 1))
      (crossed (pos q -ℤ pos r) (pos 1 -ℤ pos n) (pos n -ℤ pos 1) (distance n q r h))

  -- ---- places

  target_apart : (n : ℕ) (q p : Spot) → overlaps q.0 q.1 p.0 p.1 n ≡ false
      → (nat_eq q.0 p.0 && ranges_overlap D false n (pos q.1, pos q.1) (pos p.1, pos p.1)) ≡ false
  target_apart n q p e = by (nat_eq q.0 p.0) e
    where
      by : (t : Bool) → (t && (nat_lt q.1 (p.1 + n) && nat_lt p.1 (q.1 + n))) ≡ false
          → (t && ranges_overlap D false n (pos q.1, pos q.1) (pos p.1, pos p.1)) ≡ false
      by true h = ranges_apart n q.1 p.1 (no_byte q.1 p.1 n h)
      by false h = refl

  pub none_told : Lawful D → (sizes : List ℕ) (n : ℕ) (x y : SideValue N) (q p : Spot) → IsOneInto D x.value q.0 q.1
      → IsOneInto D y.value p.0 p.1 → overlaps q.0 q.1 p.0 p.1 n ≡ false → may_overlap D sizes false n x y ≡ false
  none_told law sizes n x y q p a b e =
      let i = one_into D law x.value q.0 q.1 a.one a.allowed in
      let j = one_into D law y.value p.0 p.1 b.one b.allowed in
      ap (λ o. list_any (target_overlaps D false n (targets_of D sizes (pointer_in y.value)))
      (targets_of D sizes (pointer_in o))) i.is
      ∙ ap (λ o. list_any (target_overlaps D false n (targets_of D sizes (pointer_in o))) ((q.0, i.n) ∷ [])) j.is
      ∙ ap (λ (s : ℤ × ℤ). ((nat_eq q.0 p.0 && ranges_overlap D false n s (D.range j.n)) || false) || false) i.single
      ∙ ap (λ (s : ℤ × ℤ). ((nat_eq q.0 p.0 && ranges_overlap D false n (pos q.1, pos q.1) s) || false) || false)
      j.single
      ∙ ap (λ t. (t || false) || false) (target_apart n q p e)

-- ---- the same of machines' places

pub are_free : (n : ℕ) (q p : Spot) → overlaps q.0 q.1 p.0 p.1 n ≡ false → AreFree false n q p
are_free n q p e = ap (λ t. t && not (false && (nat_eq q.0 p.0 && nat_eq q.1 p.1))) e
