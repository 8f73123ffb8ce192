-- What ranges allow outside a block, and the least range of the results.
use Rattle.std.proofs.Common.{◌≡◌, ℕ, ℤ, ◌+ℤ◌, ◌-ℤ◌, ◌≤ℤ◌, ◌<ℤ◌, Bool, true, false, ◌||◌, IsTrue, List, [], ◌∷◌}
use Rattle.ep_range_laws.proofs.Comparisons.{from_lt_true, le_self, lt_true, max_is, min_is}
use Rattle.std.proofs.lemmas.Bool.{or_cases, or_left, or_right}
use Rattle.std.proofs.Common.{slice_get, fold, refl, sym, ◌∙◌, subst, Option, Some, None, ◌⊎◌, inl, inr, ◌↔◌, arith}
use Rattle.std.specs.List.{list_any}
use Rattle.std.proofs.lemmas.Int.{ints, clamps}
use Rattle.ep_domain.specs.Domain.{Ops, Lawful}
use Rattle.ep_range_laws.specs.Ranges.{LiesIn}
use Rattle.ep_range_laws.proofs.Corners.{product_up}
use Rattle.ep_pointers.specs.Value.{Target, AreAbove, IsRising, offset_at}
use Rattle.ep_pointers.specs.Sum.{move, exact_at, IsOutside, exact_range, leaves, may_leave, hull, shown_of, IsResult}
use Rattle.ep_pointers.specs.Sum.{MayLeave, ShowsResults}
use Rattle.ep_pointers.proofs.Lists.{Order, less, equals, more, order, same, none_above}

-- ---- numbers

sum_between : (l x h a p b : ℤ) → l ≤ℤ x → x ≤ℤ h → a ≤ℤ p → p ≤ℤ b → LiesIn (l +ℤ a, h +ℤ b) (x +ℤ p)
sum_between l x h a p b i j k m = record { low = omega (arith, ints); high = omega (arith, ints) }

difference_between : (l x h a p b : ℤ) → l ≤ℤ x → x ≤ℤ h → a ≤ℤ p → p ≤ℤ b → LiesIn (l -ℤ b, h -ℤ a) (x -ℤ p)
difference_between l x h a p b i j k m = record { low = omega (arith, ints); high = omega (arith, ints) }

le_lt : (a b c : ℤ) → a ≤ℤ b → b <ℤ c → a <ℤ c
le_lt a b c h k = omega (arith, ints)

lt_le : (a b c : ℤ) → a <ℤ b → b ≤ℤ c → a <ℤ c
lt_le a b c h k = omega (arith, ints)

-- a range in which some numbers lie outside
leaves_from : (size : Option ℕ) (e : ℤ × ℤ) (v : ℤ) → LiesIn e v → IsOutside size v → leaves size e ≡ true
leaves_from None e v l o = refl
leaves_from (Some size) e v l (inl h) = or_left _ _ (lt_true _ _ (le_lt _ _ _ l.low h))
leaves_from (Some size) e v l (inr h) = or_right _ _ (lt_true _ _ (lt_le _ _ _ h l.high))

-- an end is outside
leaves_at : (size : Option ℕ) (e : ℤ × ℤ) → leaves size e ≡ true → IsOutside size e.0 ⊎ IsOutside size e.1
leaves_at None e h = inl tt
leaves_at (Some size) e h = elim (or_cases _ _ h) [
  | inl f ↦ inl (inl (from_lt_true _ _ f))
  | inr f ↦ inr
      (inr (from_lt_true _ _ f))
]

hull_left : (r s : ℤ × ℤ) (v : ℤ) → LiesIn r v → LiesIn (hull r s) v
hull_left r s v l = let a = l.low in let b = l.high in record {
  low = omega (arith, ints, clamps);
  high = omega
      (arith, ints, clamps);
}

hull_right : (r s : ℤ × ℤ) (v : ℤ) → LiesIn s v → LiesIn (hull r s) v
hull_right r s v l = let a = l.low in let b = l.high in record {
  low = omega (arith, ints, clamps);
  high = omega
      (arith, ints, clamps);
}

-- ---- targets of a list

module _ {N : Type 0} where
  -- a target that stands at its block
  pub record Stands (ts : List (Target N)) (t : Target N) : Type 0 where
    pub there : offset_at ts t.0 ≡ Some t.1

  stands_first : (t : Target N) (ts : List (Target N)) → Stands (t ∷ ts) t
  stands_first t ts = record { there = rw ((same t.0 t.0 refl).equal) refl }

  stands_later : (t u : Target N) (ts : List (Target N)) → AreAbove t.0 ts → Stands ts u → Stands (t ∷ ts) u
  stands_later t u ts h s = record {
    there = elim (order t.0 u.0) [
      | less o ↦ rw (o.differs) (s.there)
      | equals o ↦ let none : offset_at ts u.0 ≡ None = none_above u.0 ts (subst (λ a. AreAbove a ts) o.eq h) in let e
          = s.there in absurd cc
      | more o ↦ rw (o.differs') (s.there)
    ];
  }

  any_stands : (W : Target N → Bool) (ts : List (Target N)) → IsRising ts → list_any W ts ≡ true
      → (t : Target N) × Stands ts t × (W t ≡ true)
  any_stands W [] r e = absurd cc
  any_stands W (t ∷ ts) r e = elim (or_cases _ _ e) [
    | inl h ↦ (t, stands_first t ts, h)
    | inr h ↦ let u = any_stands W ts r.1 h in (u.0, stands_later t u.0 ts r.0 u.1, u.2)
  ]

  pub any_at : (W : Target N → Bool) (ts : List (Target N)) (b : ℕ) (n : N) → offset_at ts b ≡ Some n
      → W (b, n) ≡ true → list_any W ts ≡ true
  any_at W [] b n e w = absurd cc
  any_at W (t ∷ ts) b n e w = elim (order t.0 b) [
    | less o ↦ or_right (W t) _ (any_at W ts b n (rw (o.differs) at e) w)
    | equals o ↦
        let f : Some t.1 ≡ Some n = rw (o.equal) at e in
        let g : t.1 ≡ n = cc in
        let h : W (t.0, n) ≡ true = subst (λ a. W (a, n) ≡ true) (sym o.eq) w in
        or_left (W t) _ (subst (λ z. W (t.0, z) ≡ true) (sym g) h)
    | more o ↦ or_right (W t) _ (any_at W ts b n (rw (o.differs') at e) w)
  ]

module _ {N : Type 0} (d : Ops N) (law : Lawful d) (delta : N) (u : ℕ) where
  -- ---- the exact results of ranges

  in_exact : (sub : Bool) (n : N) (x y : ℤ) → LiesIn (d.range n) x → LiesIn (d.range delta) y
      → LiesIn (exact_range d (move delta u sub) n) (exact_at sub u x y)
  in_exact false n x y l m = sum_between _ _ _ _ _ _ l.low l.high (product_up _ _ u m.low) (product_up _ _ u m.high)
  in_exact true n x y l m = difference_between _ _ _ _ _ _ l.low l.high (product_up _ _ u m.low)
      (product_up _ _ u m.high)

  low_end : (n : N) → LiesIn (d.range n) (d.range n).0
  low_end n = record { low = le_self _; high = (law.range_ends n).ordered }

  high_end : (n : N) → LiesIn (d.range n) (d.range n).1
  high_end n = record { low = (law.range_ends n).ordered; high = le_self _ }

  low_result : (sub : Bool) (ts : List (Target N)) (b : ℕ) (n : N) → offset_at ts b ≡ Some n
      → IsResult d (move delta u sub) ts b (exact_range d (move delta u sub) n).0
  low_result false ts b n e = record {
    offsets = n;
    x = (d.range n).0;
    y = (d.range delta).0;
    there = e;
    left =
        low_end n;
    right = low_end delta;
    result = refl;
  }
  low_result true ts b n e = record {
    offsets = n;
    x = (d.range n).0;
    y = (d.range delta).1;
    there = e;
    left = low_end
        n;
    right = high_end delta;
    result = refl;
  }

  high_result : (sub : Bool) (ts : List (Target N)) (b : ℕ) (n : N) → offset_at ts b ≡ Some n
      → IsResult d (move delta u sub) ts b (exact_range d (move delta u sub) n).1
  high_result false ts b n e = record {
    offsets = n;
    x = (d.range n).1;
    y = (d.range delta).1;
    there = e;
    left =
        high_end n;
    right = high_end delta;
    result = refl;
  }
  high_result true ts b n e = record {
    offsets = n;
    x = (d.range n).1;
    y = (d.range delta).0;
    there = e;
    left =
        high_end n;
    right = low_end delta;
    result = refl;
  }

  module _ (sub : Bool) where
    result_in : (ts : List (Target N)) (b : ℕ) (v : ℤ) (r : IsResult d (move delta u sub) ts b v)
        → LiesIn (exact_range d (move delta u sub) r.offsets) v
    result_in ts b v r = subst (LiesIn (exact_range d (move delta u sub) r.offsets)) (sym r.result)
        (in_exact sub r.offsets r.x r.y r.left r.right)

    pub leaves_so : (sizes : List ℕ) (ts : List (Target N)) → IsRising ts
        → IsTrue (may_leave d (move delta u sub) sizes ts) ↔ MayLeave d (move delta u sub) sizes ts
    leaves_so sizes ts r = (to, from)
      where
        to : may_leave d (move delta u sub) sizes ts ≡ true → MayLeave d (move delta u sub) sizes ts
        to e =
            let t = any_stands (λ t. leaves (slice_get sizes t.0) (exact_range d (move delta u sub) t.1)) ts r e in
            elim (leaves_at (slice_get sizes t.0.0) (exact_range d (move delta u sub) t.0.1) t.2) [
              | inl o ↦ record {
                block = t.0.0;
                v = (exact_range d (move delta u sub) t.0.1).0;
                result = low_result
                    sub ts t.0.0 t.0.1 t.1.there;
                outside = o;
              }
              | inr o ↦ record {
                block = t.0.0;
                v = (exact_range d (move delta u sub) t.0.1).1;
                result = high_result
                    sub ts t.0.0 t.0.1 t.1.there;
                outside = o;
              }
            ]

        from : MayLeave d (move delta u sub) sizes ts → may_leave d (move delta u sub) sizes ts ≡ true
        from m =
            let n = m.result.offsets in
            any_at (λ t. leaves (slice_get sizes t.0) (exact_range d (move delta u sub) t.1)) ts m.block n
            m.result.there (leaves_from (slice_get sizes m.block) (exact_range d (move delta u sub) n) m.v
            (result_in ts m.block m.v m.result) m.outside)

    -- ---- the least range

    shown_keeps : (e : ℤ × ℤ) (ts : List (Target N)) (v : ℤ) → LiesIn e v
        → LiesIn (fold (λ e t. hull e (exact_range d (move delta u sub) t.1)) e ts) v
    shown_keeps e [] v l = l
    shown_keeps e (t ∷ ts) v l = shown_keeps (hull e (exact_range d (move delta u sub) t.1)) ts v
        (hull_left e (exact_range d (move delta u sub) t.1) v l)

    shown_has : (e : ℤ × ℤ) (ts : List (Target N)) (b : ℕ) (n : N) (v : ℤ) → offset_at ts b ≡ Some n
        → LiesIn (exact_range d (move delta u sub) n) v → LiesIn (fold (λ e t. hull e
        (exact_range d (move delta u sub) t.1)) e ts) v
    shown_has e [] b n v f l = absurd cc
    shown_has e (t ∷ ts) b n v f l = elim (order t.0 b) [
      | less o ↦ shown_has (hull e (exact_range d (move delta u sub) t.1)) ts b n v (rw (o.differs) at f) l
      | equals o ↦
          let g : Some t.1 ≡ Some n = rw (o.equal) at f in
          let h : n ≡ t.1 = cc in
          shown_keeps (hull e (exact_range d (move delta u sub) t.1)) ts v
          (hull_right e (exact_range d (move delta u sub) t.1) v (subst
          (λ z. LiesIn (exact_range d (move delta u sub) z) v) h l))
      | more o ↦ shown_has (hull e (exact_range d (move delta u sub) t.1)) ts b n v (rw (o.differs') at f) l
    ]

    -- an end of the range that is shown is that of the range at the beginning, or of some target
    pub data LowEnd (e : ℤ × ℤ) (ts : List (Target N)) (v : ℤ) : Type 0 where
      first_low : v ≡ e.0 → LowEnd e ts v
      later_low : (t : Target N) → Stands ts t → v ≡ (exact_range d (move delta u sub) t.1).0 → LowEnd e ts v

    pub data HighEnd (e : ℤ × ℤ) (ts : List (Target N)) (v : ℤ) : Type 0 where
      first_high : v ≡ e.1 → HighEnd e ts v
      later_high : (t : Target N) → Stands ts t → v ≡ (exact_range d (move delta u sub) t.1).1 → HighEnd e ts v

    low_of : (e : ℤ × ℤ) (ts : List (Target N)) → IsRising ts
        → LowEnd e ts (fold (λ e t. hull e (exact_range d (move delta u sub) t.1)) e ts).0
    low_of e [] r = first_low refl
    low_of e (t ∷ ts) r = elim (low_of (hull e (exact_range d (move delta u sub) t.1)) ts r.1) [
      | first_low f ↦ elim (min_is e.0 (exact_range d (move delta u sub) t.1).0) [
        | inl g ↦ first_low (f
            ∙ g)
        | inr g ↦ later_low t (stands_first t ts) (f ∙ g)
      ]
      | later_low w s f ↦ later_low w (stands_later t w ts r.0 s) f
    ]

    high_of : (e : ℤ × ℤ) (ts : List (Target N)) → IsRising ts
        → HighEnd e ts (fold (λ e t. hull e (exact_range d (move delta u sub) t.1)) e ts).1
    high_of e [] r = first_high refl
    high_of e (t ∷ ts) r = elim (high_of (hull e (exact_range d (move delta u sub) t.1)) ts r.1) [
      | first_high f ↦ elim (max_is e.1 (exact_range d (move delta u sub) t.1).1) [
        | inl g ↦ first_high (f
            ∙ g)
        | inr g ↦ later_high t (stands_first t ts) (f ∙ g)
      ]
      | later_high w s f ↦ later_high w (stands_later t w ts r.0 s) f
    ]

    shows : (t : Target N) (ts : List (Target N)) → IsRising (t ∷ ts)
        → ShowsResults d (move delta u sub) (t ∷ ts) (shown_of d (move delta u sub) (t ∷ ts))
    shows t ts r = record { each = each; low = low; high = high }
      where
        each : (b : ℕ) (v : ℤ) → IsResult d (move delta u sub) (t ∷ ts) b v
            → LiesIn (shown_of d (move delta u sub) (t ∷ ts)) v
        each b v i = by (order t.0 b)
          where
            by : Order t.0 b → LiesIn (shown_of d (move delta u sub) (t ∷ ts)) v
            by (less o) = shown_has (exact_range d (move delta u sub) t.1) ts b i.offsets v
                (rw (o.differs) at i.there) (result_in (t ∷ ts) b v i)
            by (equals o) =
                let g : Some t.1 ≡ Some i.offsets = rw (o.equal) at i.there in
                let h : i.offsets ≡ t.1 = cc in
                shown_keeps (exact_range d (move delta u sub) t.1) ts v
                (subst (λ z. LiesIn (exact_range d (move delta u sub) z) v) h (result_in (t ∷ ts) b v i))
            by (more o) = shown_has (exact_range d (move delta u sub) t.1) ts b i.offsets v
                (rw (o.differs') at i.there) (result_in (t ∷ ts) b v i)

        low : (b : ℕ) × IsResult d (move delta u sub) (t ∷ ts) b (shown_of d (move delta u sub) (t ∷ ts)).0
        low = elim (low_of (exact_range d (move delta u sub) t.1) ts r.1) [
          | first_low f ↦ (
            t.0,
            subst (IsResult d (move delta u sub) (t ∷ ts) t.0) (sym f)
                (low_result sub (t ∷ ts) t.0 t.1 (stands_first t ts).there),
          )
          | later_low w s f ↦ (
            w.0,
            subst (IsResult d (move delta u sub) (t ∷ ts) w.0) (sym f)
                (low_result sub (t ∷ ts) w.0 w.1 (stands_later t w ts r.0 s).there),
          )
        ]

        high : (b : ℕ) × IsResult d (move delta u sub) (t ∷ ts) b (shown_of d (move delta u sub) (t ∷ ts)).1
        high = elim (high_of (exact_range d (move delta u sub) t.1) ts r.1) [
          | first_high f ↦ (
            t.0,
            subst (IsResult d (move delta u sub) (t ∷ ts) t.0) (sym f)
                (high_result sub (t ∷ ts) t.0 t.1 (stands_first t ts).there),
          )
          | later_high w s f ↦ (
            w.0,
            subst (IsResult d (move delta u sub) (t ∷ ts) w.0) (sym f)
                (high_result sub (t ∷ ts) w.0 w.1 (stands_later t w ts r.0 s).there),
          )
        ]

    pub least_shown : (sizes : List ℕ) (ts : List (Target N)) → IsRising ts
        → IsTrue (may_leave d (move delta u sub) sizes ts) → ShowsResults d (move delta u sub) ts
        (shown_of d (move delta u sub) ts)
    least_shown sizes [] r e = absurd cc
    least_shown sizes (t ∷ ts) r e = shows t ts r
