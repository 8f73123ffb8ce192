-- Where a machine's two places have no byte in common, or are the same of an aggregate, no overlap is seen of pointers
-- that can be one alone.
use Rattle.std.proofs.Common.{◌≡◌, ℕ, ◌+◌, ◌<◌, ℤ, pos, ◌-ℤ◌, ◌≤ℤ◌, Bool, true, false, ◌&&◌, ◌||◌, not, nat_eq, nat_lt}
use Rattle.std.proofs.Common.{if◌then◌else◌, List, [], ◌∷◌, refl, ap, ◌∙◌, arith}
use Rattle.std.specs.Prelude.{int_le}
use Rattle.std.specs.List.{list_any}
use Rattle.std.proofs.lemmas.Int.{ints}
use Rattle.std.proofs.lemmas.Bool.{and_from, and_parts, eqb-true, lt-ltb, not-true, false_from_ne_true, both_ways}
use Rattle.ep_int.proofs.Arithmetic.{le_fact, le_test}
use Rattle.ep_range_laws.proofs.Comparisons.{le_self, from_le_false}
use Rattle.ep_domain.specs.Domain.{Ops, Lawful}
use Rattle.ep_cell_ranges.specs.Spots.{Spot}
use Rattle.ep_equalities.specs.declared.pair.SideValue.{SideValue}
use Rattle.ep_evaluation.specs.Operators.{pointer_in}
use Rattle.ep_evaluation.specs.Evaluation.{pointer, targets_of}
use Rattle.ep_transfers.specs.Copies.{larger, smaller, ranges_overlap, target_overlaps, may_overlap}
use Rattle.ep_transfers.proofs.Located.{AreFree}
use Rattle.ep_single_places.specs.Laws.{IsOneInto}
use Rattle.ep_single_places.proofs.Places.{one_into}

less : (a b : ℤ) → int_le a b ≡ false → b ≤ℤ a
less a b e = let h = from_le_false a b e in omega (arith, ints, h)

module _ {N : Type 0} (D : Ops N) where
  larger_both : (a b : ℤ) → (a ≤ℤ larger D a b) × (b ≤ℤ larger D a b)
  larger_both a b = by (int_le a b) refl
    where
      by : (t : Bool) → int_le a b ≡ t → (a ≤ℤ (if t then b else a)) × (b ≤ℤ (if t then b else a))
      by true e = (le_fact a b e, le_self b)
      by false e = (le_self a, less a b e)

  smaller_both : (a b : ℤ) → (smaller D a b ≤ℤ a) × (smaller D a b ≤ℤ b)
  smaller_both a b = by (int_le a b) refl
    where
      by : (t : Bool) → int_le a b ≡ t → ((if t then a else b) ≤ℤ a) × ((if t then a else b) ≤ℤ b)
      by true e = (le_self a, le_fact a b e)
      by false e = (less a b e, le_self b)

both_near : (n q r : ℕ) (lo hi : ℤ) → lo ≤ℤ hi → (pos q -ℤ pos r) ≤ℤ lo → (pos 1 -ℤ pos n) ≤ℤ lo
    → hi ≤ℤ (pos q -ℤ pos r) → hi ≤ℤ (pos n -ℤ pos 1) → (q < r + n) × (r < q + n)
both_near n q r lo hi h a b c d = (omega (arith, ints, h, a, d), omega (arith, ints, h, b, c))

none_below : (q r : ℕ) (lo : ℤ) → q ≡ r → (pos q -ℤ pos r) ≤ℤ lo → pos 0 ≤ℤ lo
none_below q r lo e h = omega (arith, ints, e, h)

none_above : (q r : ℕ) (hi : ℤ) → q ≡ r → hi ≤ℤ (pos q -ℤ pos r) → hi ≤ℤ pos 0
none_above q r hi e h = omega (arith, ints, e, h)

must : (x y : Bool) → (x && not y) ≡ false → x ≡ true → y ≡ true
must true true h e = refl
must true false h e = absurd (let d : true ≡ false = h in cc)
must false y h e = absurd (let d : false ≡ true = e in cc)

module _ {N : Type 0} (D : Ops N) where
  no_overlap : (agg : Bool) (n q r : ℕ)
      → ((nat_lt q (r + n) && nat_lt r (q + n)) && not (agg && nat_eq q r)) ≡ false
      → ranges_overlap D agg n (pos q, pos q) (pos r, pos r) ≡ false
  no_overlap agg n q r free =
      false_from_ne_true (ranges_overlap D agg n (pos q, pos q) (pos r, pos r))
      (λ h.
      let lo = larger D (pos q -ℤ pos r) (pos 1 -ℤ pos n) in
      let hi = smaller D (pos q -ℤ pos r) (pos n -ℤ pos 1) in
      let p = and_parts (int_le lo hi) (not (agg && (int_le (pos 0) lo && int_le hi (pos 0)))) h in
      let l = larger_both D (pos q -ℤ pos r) (pos 1 -ℤ pos n) in
      let s = smaller_both D (pos q -ℤ pos r) (pos n -ℤ pos 1) in
      let near = both_near n q r lo hi (le_fact lo hi p.0) l.0 l.1 s.0 s.1 in
      let same = and_parts agg (nat_eq q r) (must (nat_lt q (r + n) && nat_lt r (q + n)) (agg && nat_eq q r) free
      (and_from (nat_lt q (r + n)) (nat_lt r (q + n)) (lt-ltb q (r + n) near.0) (lt-ltb r (q + n) near.1))) in
      let at : q ≡ r = eqb-true q r same.1 in
      both_ways (agg && (int_le (pos 0) lo && int_le hi (pos 0)))
      (not-true (agg && (int_le (pos 0) lo && int_le hi (pos 0))) p.1)
      (and_from agg (int_le (pos 0) lo && int_le hi (pos 0)) same.0
      (and_from (int_le (pos 0) lo) (int_le hi (pos 0)) (le_test (pos 0) lo (none_below q r lo at l.0))
      (le_test hi (pos 0) (none_above q r hi at s.0)))))

  pub none_overlaps : Lawful D → (sizes : List ℕ) (agg : Bool) (n : ℕ) (x y : SideValue N) (q p : Spot)
      → IsOneInto D x.value q.0 q.1 → IsOneInto D y.value p.0 p.1 → AreFree agg n q p
      → may_overlap D sizes agg n x y ≡ false
  none_overlaps law sizes agg n x y q p one two free =
      let i = one_into D law x.value q.0 q.1 one.one one.allowed in
      let j = one_into D law y.value p.0 p.1 two.one two.allowed in
      ap (λ o. list_any (target_overlaps D agg n (targets_of D sizes (pointer D y))) (targets_of D sizes (pointer_in o)))
      i.is
      ∙ ap (λ o. list_any (target_overlaps D agg n (targets_of D sizes (pointer_in o))) ((q.0, i.n) ∷ [])) j.is
      ∙ ap (λ (r : ℤ × ℤ). ((nat_eq q.0 p.0 && ranges_overlap D agg n r (D.range j.n)) || false) || false) i.single
      ∙ ap (λ (r : ℤ × ℤ). ((nat_eq q.0 p.0 && ranges_overlap D agg n (pos q.1, pos q.1) r) || false) || false) j.single
      ∙ by_block (nat_eq q.0 p.0) free
    where
      by_block : (t : Bool)
          → ((t && (nat_lt q.1 (p.1 + n) && nat_lt p.1 (q.1 + n))) && not (agg && (t && nat_eq q.1 p.1))) ≡ false
          → ((t && ranges_overlap D agg n (pos q.1, pos q.1) (pos p.1, pos p.1)) || false) || false ≡ false
      by_block true e = ap (λ z. (z || false) || false) (no_overlap agg n q.1 p.1 e)
      by_block false e = refl
