-- Which results are the least intervals.
use Rattle.std.proofs.Common.{◌≡◌, ℤ, pos, ◌+ℤ◌, ◌-ℤ◌, ◌≤ℤ◌, Bool, true, false, cond, ◌&&◌, ◌⊎◌, inl, inr, Option}
use Rattle.std.proofs.Common.{Some, None, Result, Ok, Err, IfSome, refl, sym, ap, ◌∙◌, subst, arith}
use Rattle.std.specs.Prelude.{IsSomeAnd}
use Rattle.std.specs.Option.{option_and_then}
use Rattle.std.specs.Int.{int_min, int_max}
use Rattle.std.proofs.lemmas.Int.{ints, clamps}
use Rattle.ep_int.specs.declared.types.IntType.{IntType}
use Rattle.ep_int.specs.declared.types.BinOp.{BinOp}
use Rattle.ep_int.specs.declared.types.BinOp.TheVariants.{Add, Sub, Mul, Div, Rem, And, Or, Xor, Shl, Shr}
use Rattle.ep_int.specs.declared.types.Undef.{Undef}
use Rattle.ep_int.specs.declared.types.Undef.TheVariants.{Overflow}
use Rattle.ep_int.specs.Types.{is_signed, least_of, greatest_of, InRange, wrapped}
use Rattle.ep_int.specs.Arith.{arith_of, settled, is_in_range, int_eq}
use Rattle.ep_int.proofs.Wrapping.{wrapped_same}
use Rattle.ep_range_laws.specs.Ranges.{IsRange, LiesIn}
use Rattle.ep_range_laws.specs.Faults.{Takes, shown_of, shown_range}
use Rattle.ep_range_laws.proofs.Comparisons.{between_true, le_self}
use Rattle.ep_range_laws.proofs.Types.{in_range_true}
use Rattle.ep_range_laws.proofs.FaultAt.{ShownAt, low_shown, high_shown}
use Rattle.ep_interval_laws.specs.Ends.{in_one_stretch, wrapped_low, wrapped_high}
use Rattle.ep_interval_laws.specs.Interval.{Interval, HasNumber, ends_of, between, overlap, join_of, meet_of}
use Rattle.ep_interval_laws.specs.Interval.{conversion_of}
use Rattle.ep_interval_laws.specs.Results.{clipped, settled_between, single_result, results_of, results_between}
use Rattle.ep_interval_laws.specs.Results.{value_of}
use Rattle.ep_interval_laws.specs.Least.{IsLeast, IsLeastOf, IsResult, IsConverted, HasLeast, IsCommon}
use Rattle.ep_interval_laws.proofs.Between.{between_parts}
use Rattle.ep_interval_laws.proofs.Wrapping.{Passes, passes}
use Rattle.ep_interval_laws.proofs.Simple as simple
use Rattle.ep_interval_laws.proofs.Outcomes.{value_holds}

-- an interval whose ends are such numbers is the least
ends_least : (P : ℤ → Type 0) (c : Interval) → ((v : ℤ) → P v → HasNumber c v) → P c.lo → P c.hi → IsLeast P c
ends_least P c h p q = record {
  each = h;
  least = λ d k. between_true d.lo c.lo c.hi d.hi (simple.has_low d c.lo (k c.lo p)) (simple.has_high d c.hi (k c.hi q));
}

-- ---- join, meet and conversion

pub join_least : (a b : Interval) → IsLeast (λ v. HasNumber a v ⊎ HasNumber b v) (join_of a b)
join_least a b = record {
  each = λ v h. held v h;
  least = λ d k.
      let al = simple.has_low d a.lo (k a.lo (inl (simple.has a a.lo (le_self a.lo) a.ends.ordered))) in
      let ah = simple.has_high d a.hi (k a.hi (inl (simple.has a a.hi a.ends.ordered (le_self a.hi)))) in
      let bl = simple.has_low d b.lo (k b.lo (inr (simple.has b b.lo (le_self b.lo) b.ends.ordered))) in
      let bh = simple.has_high d b.hi (k b.hi (inr (simple.has b b.hi b.ends.ordered (le_self b.hi)))) in
      between_true d.lo (int_min a.lo b.lo) (int_max a.hi b.hi) d.hi (omega (arith, ints, clamps)) (omega (arith, ints, clamps));
}
  where
    held : (v : ℤ) → HasNumber a v ⊎ HasNumber b v → HasNumber (join_of a b) v
    held v (inl h) = simple.join_left a b v h
    held v (inr h) = simple.join_right a b v h

pub meet_common : (a b : Interval) → IsCommon a b (meet_of a b)
meet_common a b = by_value (meet_of a b) refl
  where
    no_number : (o : Option Interval) (z : ℤ) → o ≡ None → IsSomeAnd o (λ c. HasNumber c z) → ⊥
    no_number o z e h = subst (λ o. IsSomeAnd o (λ c. HasNumber c z)) e h

    inside : (c : Interval) → meet_of a b ≡ Some c → (c.lo ≡ int_max a.lo b.lo) × (c.hi ≡ int_min a.hi b.hi)
    inside c e = subst (λ o. IfSome o (λ c. (c.lo ≡ int_max a.lo b.lo) × (c.hi ≡ int_min a.hi b.hi))) e (between_parts (int_max a.lo b.lo) (int_min a.hi b.hi) (λ c. (c.lo ≡ int_max a.lo b.lo) × (c.hi ≡ int_min a.hi b.hi)) (λ p. (refl, refl)))

    out_of : (c : Interval) (z : ℤ) → (c.lo ≡ int_max a.lo b.lo) × (c.hi ≡ int_min a.hi b.hi) → HasNumber c z → HasNumber a z × HasNumber b z
    out_of c z e h =
        let l = simple.has_low c z h in let u = simple.has_high c z h in let p = e.0 in let q = e.1 in
        (simple.has a z (omega (arith, ints, clamps)) (omega (arith, ints, clamps)), simple.has b z (omega (arith, ints, clamps)) (omega (arith, ints, clamps)))

    into : (c : Interval) (z : ℤ) → (c.lo ≡ int_max a.lo b.lo) × (c.hi ≡ int_min a.hi b.hi) → HasNumber a z × HasNumber b z → HasNumber c z
    into c z e h =
        let al = simple.has_low a z h.0 in let ah = simple.has_high a z h.0 in let bl = simple.has_low b z h.1 in let bh = simple.has_high b z h.1 in
        let p = e.0 in let q = e.1 in simple.has c z (omega (arith, ints, clamps)) (omega (arith, ints, clamps))

    by_value : (o : Option Interval) → meet_of a b ≡ o → IsCommon a b o
    by_value None e = λ z h k. no_number (meet_of a b) z e (simple.overlap_holds a b.lo b.hi z h (simple.has_low b z k) (simple.has_high b z k))
    by_value (Some c) e = λ z. (out_of c z (inside c e), into c z (inside c e))

pub conversion_least : (a : Interval) (t : IntType) → IsLeast (IsConverted t a) (conversion_of a t)
conversion_least a t = ends_least (IsConverted t a) (conversion_of a t) held (by_low (in_one_stretch t a.lo a.hi) refl) (by_high (in_one_stretch t a.lo a.hi) refl)
  where
    held : (v : ℤ) → IsConverted t a v → HasNumber (conversion_of a t) v
    held v h = subst (HasNumber (conversion_of a t)) (sym h.converted) (simple.conversion_holds a t h.number h.held)

    at_end : Passes t a.lo a.hi → IsConverted t a (least_of t)
    at_end p = let q = p.above in let r = p.below in record { number = p.end; held = simple.has a p.end (omega (arith, ints)) r; converted = sym p.to_least }

    before_end : Passes t a.lo a.hi → IsConverted t a (greatest_of t)
    before_end p = let q = p.above in let r = p.below in record { number = p.end -ℤ pos 1; held = simple.has a (p.end -ℤ pos 1) (omega (arith, ints)) (omega (arith, ints)); converted = sym p.to_greatest }

    by_low : (b : Bool) → in_one_stretch t a.lo a.hi ≡ b → IsConverted t a (cond b (wrapped t a.lo) (least_of t))
    by_low true e = record { number = a.lo; held = simple.has a a.lo (le_self a.lo) a.ends.ordered; converted = refl }
    by_low false e = at_end (passes t a.lo a.hi a.ends.ordered e)

    by_high : (b : Bool) → in_one_stretch t a.lo a.hi ≡ b → IsConverted t a (cond b (wrapped t a.hi) (greatest_of t))
    by_high true e = record { number = a.hi; held = simple.has a a.hi a.ends.ordered (le_self a.hi); converted = refl }
    by_high false e = before_end (passes t a.lo a.hi a.ends.ordered e)

-- ---- sums, differences and products

-- what a number from one end to another settles to
record Settles (u : Undef) (t : IntType) (e : ℤ × ℤ) (v : ℤ) : Type 0 where
  exact : ℤ
  inside : LiesIn e exact
  settles : settled u t exact ≡ Ok v

settled_same : (u : Undef) (t : IntType) (v : ℤ) → InRange t v → settled u t v ≡ Ok v
settled_same u t v i = by_tests (is_signed t) (is_in_range t v) (in_range_true t v i) (wrapped_same t v i)
  where
    by_tests : (s b : Bool) → b ≡ true → wrapped t v ≡ v → (let r : Result ℤ Undef = cond s (cond b (Ok v) (Err u)) (Ok (wrapped t v)) in r) ≡ Ok v
    by_tests true true e f = refl
    by_tests true false e f = absurd cc
    by_tests false b e f = ap Ok f

settled_unsigned : (u : Undef) (t : IntType) (v : ℤ) → is_signed t ≡ false → settled u t v ≡ Ok (wrapped t v)
settled_unsigned u t v s = ap (λ b. cond b (cond (is_in_range t v) (Ok v) (Err u)) (Ok (wrapped t v))) s

-- both ends of what exact results settle to are such
settled_ends : (u : Undef) (t : IntType) (e : ℤ × ℤ) → e.0 ≤ℤ e.1 → IfSome (settled_between t e) (λ c. Settles u t e c.lo × Settles u t e c.hi)
settled_ends u t e o = by_sign (is_signed t) refl
  where
    of_clipped : (p : IsRange (int_max e.0 (least_of t)) (int_min e.1 (greatest_of t))) → Settles u t e (int_max e.0 (least_of t)) × Settles u t e (int_min e.1 (greatest_of t))
    of_clipped p =
        let r = p.ordered in (
          record { exact = int_max e.0 (least_of t); inside = record { low = omega (arith, ints, clamps); high = omega (arith, ints, clamps) }; settles = settled_same u t _ (record { low = omega (arith, ints, clamps); high = omega (arith, ints, clamps) }) },
          record { exact = int_min e.1 (greatest_of t); inside = record { low = omega (arith, ints, clamps); high = omega (arith, ints, clamps) }; settles = settled_same u t _ (record { low = omega (arith, ints, clamps); high = omega (arith, ints, clamps) }) },
        )

    of_low : is_signed t ≡ false → (b : Bool) → in_one_stretch t e.0 e.1 ≡ b → Settles u t e (cond b (wrapped t e.0) (least_of t))
    of_low s true f = record { exact = e.0; inside = record { low = le_self e.0; high = o }; settles = settled_unsigned u t e.0 s }
    of_low s false f =
        let p = passes t e.0 e.1 o f in let q = p.above in let r = p.below in
        record { exact = p.end; inside = record { low = omega (arith, ints); high = r }; settles = settled_unsigned u t p.end s ∙ ap Ok p.to_least }

    of_high : is_signed t ≡ false → (b : Bool) → in_one_stretch t e.0 e.1 ≡ b → Settles u t e (cond b (wrapped t e.1) (greatest_of t))
    of_high s true f = record { exact = e.1; inside = record { low = o; high = le_self e.1 }; settles = settled_unsigned u t e.1 s }
    of_high s false f =
        let p = passes t e.0 e.1 o f in let q = p.above in let r = p.below in
        record { exact = p.end -ℤ pos 1; inside = record { low = omega (arith, ints); high = omega (arith, ints) }; settles = settled_unsigned u t (p.end -ℤ pos 1) s ∙ ap Ok p.to_greatest }

    by_sign : (b : Bool) → is_signed t ≡ b → IfSome (cond b (clipped t e) (between (wrapped_low t e.0 e.1) (wrapped_high t e.0 e.1))) (λ c. Settles u t e c.lo × Settles u t e c.hi)
    by_sign true s = between_parts (int_max e.0 (least_of t)) (int_min e.1 (greatest_of t)) (λ c. Settles u t e c.lo × Settles u t e c.hi) of_clipped
    by_sign false s = between_parts (wrapped_low t e.0 e.1) (wrapped_high t e.0 e.1) (λ c. Settles u t e c.lo × Settles u t e c.hi) (λ p. (of_low s (in_one_stretch t e.0 e.1) refl, of_high s (in_one_stretch t e.0 e.1) refl))

-- ---- of the operands cut to the type

-- the numbers of an interval that are of the type
record IsCut (t : IntType) (a c : Interval) : Type 0 where
  inside : (z : ℤ) → HasNumber c z → HasNumber a z × InRange t z

cut_parts : (t : IntType) (a : Interval) → IfSome (overlap a (least_of t) (greatest_of t)) (IsCut t a)
cut_parts t a = between_parts (int_max a.lo (least_of t)) (int_min a.hi (greatest_of t)) (IsCut t a) parts
  where
    parts : (p : IsRange (int_max a.lo (least_of t)) (int_min a.hi (greatest_of t))) → IsCut t a (record { lo = int_max a.lo (least_of t); hi = int_min a.hi (greatest_of t); ends = p })
    parts p = record {
      inside = λ z h.
          let l = simple.has_low (record { lo = int_max a.lo (least_of t); hi = int_min a.hi (greatest_of t); ends = p }) z h in
          let u = simple.has_high (record { lo = int_max a.lo (least_of t); hi = int_min a.hi (greatest_of t); ends = p }) z h in
          (simple.has a z (omega (arith, ints, clamps)) (omega (arith, ints, clamps)), record { low = omega (arith, ints, clamps); high = omega (arith, ints, clamps) });
    }

then_parts : (o : Option Interval) (f : Interval → Option Interval) (P Q : Interval → Type 0) → IfSome o P → ((c : Interval) → P c → IfSome (f c) Q) → IfSome (option_and_then f o) Q
then_parts None f P Q h g = tt
then_parts (Some c) f P Q h g = g c h

abbrev HasEnds : BinOp → IntType → Interval → Interval → Interval → Type 0
HasEnds o t a b c = IsResult o t a b c.lo × IsResult o t a b c.hi

-- ---- exact results that are reached

record Reached (o : BinOp) (a b : Interval) (z : ℤ) : Type 0 where
  x : ℤ
  y : ℤ
  left : HasNumber a x
  right : HasNumber b y
  exact : z ≡ shown_of o x y

sum_reached : (a b : Interval) (z : ℤ) → LiesIn (shown_range Add (ends_of a) (ends_of b)) z → Reached Add a b z
sum_reached a b z h =
    let l = h.low in let u = h.high in let p = a.ends.ordered in let q = b.ends.ordered in
    record {
      x = int_max a.lo (z -ℤ b.hi);
      y = z -ℤ int_max a.lo (z -ℤ b.hi);
      left = simple.has a _ (omega (arith, ints, clamps)) (omega (arith, ints, clamps));
      right = simple.has b _ (omega (arith, ints, clamps)) (omega (arith, ints, clamps));
      exact = omega (arith, ints);
    }

difference_reached : (a b : Interval) (z : ℤ) → LiesIn (shown_range Sub (ends_of a) (ends_of b)) z → Reached Sub a b z
difference_reached a b z h =
    let l = h.low in let u = h.high in let p = a.ends.ordered in let q = b.ends.ordered in
    record {
      x = int_max a.lo (z +ℤ b.lo);
      y = int_max a.lo (z +ℤ b.lo) -ℤ z;
      left = simple.has a _ (omega (arith, ints, clamps)) (omega (arith, ints, clamps));
      right = simple.has b _ (omega (arith, ints, clamps)) (omega (arith, ints, clamps));
      exact = omega (arith, ints);
    }

sums_ordered : (a b : Interval) → (shown_range Add (ends_of a) (ends_of b)).0 ≤ℤ (shown_range Add (ends_of a) (ends_of b)).1
sums_ordered a b = let p = a.ends.ordered in let q = b.ends.ordered in omega (arith, ints)

differences_ordered : (a b : Interval) → (shown_range Sub (ends_of a) (ends_of b)).0 ≤ℤ (shown_range Sub (ends_of a) (ends_of b)).1
differences_ordered a b = let p = a.ends.ordered in let q = b.ends.ordered in omega (arith, ints)

-- ---- single results

single_parts : (r : Result ℤ Undef) (P : ℤ → Type 0) → ((v : ℤ) → r ≡ Ok v → P v) → IfSome (single_result r) (λ c. P c.lo × P c.hi)
single_parts (Ok v) P f = between_parts v v (λ c. P c.lo × P c.hi) (λ p. (f v refl, f v refl))
single_parts (Err u) P f = tt

if_parts : (b : Bool) (o p : Option Interval) (P : Interval → Type 0) → IfSome o P → IfSome p P → IfSome (cond b o p) P
if_parts true o p P h k = h
if_parts false o p P h k = k

both_parts : (o : Option Interval) (P Q : Interval → Type 0) → ((c : Interval) → P c → Q c) → IfSome o P → IfSome o Q
both_parts None P Q f h = tt
both_parts (Some c) P Q f h = f c h

module _ (o : BinOp) (t : IntType) (a b c d : Interval) (i : IsCut t a c) (j : IsCut t b d) (takes : (x y : ℤ) → InRange t x → InRange t y → Takes o t x y) where
  -- a result of the cut operands is one of the operands
  cut_result : (x y v : ℤ) → HasNumber c x → HasNumber d y → arith_of o t x y ≡ Ok v → IsResult o t a b v
  cut_result x y v h k e =
      let p = i.inside x h in let q = j.inside y k in
      record { x = x; y = y; left = p.0; right = q.0; taken = takes x y p.1 q.1; result = e }

  ends_by_cases : IfSome (results_of o t (ends_of c) (ends_of d)) (HasEnds o t a b) → IfSome (results_between o t c d) (HasEnds o t a b)
  ends_by_cases h =
      if_parts (int_eq c.lo c.hi && int_eq d.lo d.hi) (single_result (arith_of o t c.lo d.lo)) (results_of o t (ends_of c) (ends_of d)) (HasEnds o t a b)
      (single_parts (arith_of o t c.lo d.lo) (IsResult o t a b) (λ v e. cut_result c.lo d.lo v (simple.has c c.lo (le_self c.lo) c.ends.ordered) (simple.has d d.lo (le_self d.lo) d.ends.ordered) e))
      h

add_takes : (t : IntType) (x y : ℤ) → InRange t x → InRange t y → Takes Add t x y
add_takes t x y h k = record { left = h; right = k }

sub_takes : (t : IntType) (x y : ℤ) → InRange t x → InRange t y → Takes Sub t x y
sub_takes t x y h k = record { left = h; right = k }

mul_takes : (t : IntType) (x y : ℤ) → InRange t x → InRange t y → Takes Mul t x y
mul_takes t x y h k = record { left = h; right = k }

sum_result : (t : IntType) (a b c d : Interval) → IsCut t a c → IsCut t b d → (v : ℤ) → Settles Overflow t (shown_range Add (ends_of c) (ends_of d)) v → IsResult Add t a b v
sum_result t a b c d i j v s =
    let r = sum_reached c d s.exact s.inside in
    cut_result Add t a b c d i j (add_takes t) r.x r.y v r.left r.right (subst (λ z. settled Overflow t z ≡ Ok v) r.exact s.settles)

difference_result : (t : IntType) (a b c d : Interval) → IsCut t a c → IsCut t b d → (v : ℤ) → Settles Overflow t (shown_range Sub (ends_of c) (ends_of d)) v → IsResult Sub t a b v
difference_result t a b c d i j v s =
    let r = difference_reached c d s.exact s.inside in
    cut_result Sub t a b c d i j (sub_takes t) r.x r.y v r.left r.right (subst (λ z. settled Overflow t z ≡ Ok v) r.exact s.settles)

-- ---- products in range

-- where both ends of the exact results are of the type, they are the ends of the results
exact_ends : (t : IntType) (e : ℤ × ℤ) (P : Interval → Type 0) → InRange t e.0 → InRange t e.1 → ((l h : ℤ) (p : IsRange l h) → l ≡ e.0 → h ≡ e.1 → P (record { lo = l; hi = h; ends = p })) → IfSome (settled_between t e) P
exact_ends t e P i j f = by_sign (is_signed t)
  where
    clip_low : (x l : ℤ) → l ≤ℤ x → int_max x l ≡ x
    clip_low x l h = omega (arith, ints, clamps)

    clip_high : (x u : ℤ) → x ≤ℤ u → int_min x u ≡ x
    clip_high x u h = omega (arith, ints, clamps)

    zero_less : (x y : ℤ) → y ≡ x → (x -ℤ y) ≡ pos 0
    zero_less x y e = omega (arith, ints)

    stretch : in_one_stretch t e.0 e.1 ≡ true
    stretch =
        let p = zero_less e.0 (wrapped t e.0) (wrapped_same t e.0 i) in let q = zero_less e.1 (wrapped t e.1) (wrapped_same t e.1 j) in
        subst (λ z. int_eq (e.0 -ℤ wrapped t e.0) z ≡ true) (p ∙ sym q) (let w = e.0 -ℤ wrapped t e.0 in between_true w w w w (le_self w) (le_self w))

    by_sign : (b : Bool) → IfSome (cond b (clipped t e) (between (wrapped_low t e.0 e.1) (wrapped_high t e.0 e.1))) P
    by_sign true = between_parts (int_max e.0 (least_of t)) (int_min e.1 (greatest_of t)) P (λ p. f _ _ p (clip_low e.0 (least_of t) i.low) (clip_high e.1 (greatest_of t) j.high))
    by_sign false = between_parts (wrapped_low t e.0 e.1) (wrapped_high t e.0 e.1) P
        (λ p. f _ _ p (ap (λ b. cond b (wrapped t e.0) (least_of t)) stretch ∙ wrapped_same t e.0 i) (ap (λ b. cond b (wrapped t e.1) (greatest_of t)) stretch ∙ wrapped_same t e.1 j))

of_lies : (c : Interval) (z : ℤ) → LiesIn (ends_of c) z → HasNumber c z
of_lies c z h = simple.has c z h.low h.high

product_ends : (t : IntType) (a b c d : Interval) → IsCut t a c → IsCut t b d → HasLeast Mul t a b → IfSome (settled_between t (shown_range Mul (ends_of c) (ends_of d))) (HasEnds Mul t a b)
product_ends t a b c d i j n =
    exact_ends t (shown_range Mul (ends_of c) (ends_of d)) (HasEnds Mul t a b) (in_type _ low) (in_type _ high)
    (λ l h p f g. (subst (IsResult Mul t a b) (sym f) (result _ low), subst (IsResult Mul t a b) (sym g) (result _ high)))
  where
    low : ShownAt Mul (ends_of c) (ends_of d) (shown_range Mul (ends_of c) (ends_of d)).0
    low = low_shown Mul (ends_of c) (ends_of d) c.ends.ordered d.ends.ordered

    high : ShownAt Mul (ends_of c) (ends_of d) (shown_range Mul (ends_of c) (ends_of d)).1
    high = high_shown Mul (ends_of c) (ends_of d) c.ends.ordered d.ends.ordered

    in_type : (z : ℤ) → ShownAt Mul (ends_of c) (ends_of d) z → InRange t z
    in_type z s =
        let p = i.inside s.x (of_lies c s.x s.left) in let q = j.inside s.y (of_lies d s.y s.right) in
        subst (InRange t) (sym s.shown) (n s.x s.y p.0 q.0 (mul_takes t s.x s.y p.1 q.1))

    result : (z : ℤ) → ShownAt Mul (ends_of c) (ends_of d) z → IsResult Mul t a b z
    result z s = cut_result Mul t a b c d i j (mul_takes t) s.x s.y z (of_lies c s.x s.left) (of_lies d s.y s.right) (subst (λ w. settled Overflow t w ≡ Ok z) s.shown (settled_same Overflow t z (in_type z s)))

-- ---- the values

value_ends : (o : BinOp) (t : IntType) (a b : Interval) → HasLeast o t a b → IfSome (value_of o t a b) (HasEnds o t a b)
value_ends Add t a b n =
    then_parts (overlap a (least_of t) (greatest_of t)) (λ c. option_and_then (λ d. results_between Add t c d) (overlap b (least_of t) (greatest_of t))) (IsCut t a) (HasEnds Add t a b) (cut_parts t a)
    (λ c i. then_parts (overlap b (least_of t) (greatest_of t)) (λ d. results_between Add t c d) (IsCut t b) (HasEnds Add t a b) (cut_parts t b)
    (λ d j. ends_by_cases Add t a b c d i j (add_takes t)
    (both_parts (settled_between t (shown_range Add (ends_of c) (ends_of d))) _ (HasEnds Add t a b) (λ r s. (sum_result t a b c d i j r.lo s.0, sum_result t a b c d i j r.hi s.1)) (settled_ends Overflow t (shown_range Add (ends_of c) (ends_of d)) (sums_ordered c d)))))
value_ends Sub t a b n =
    then_parts (overlap a (least_of t) (greatest_of t)) (λ c. option_and_then (λ d. results_between Sub t c d) (overlap b (least_of t) (greatest_of t))) (IsCut t a) (HasEnds Sub t a b) (cut_parts t a)
    (λ c i. then_parts (overlap b (least_of t) (greatest_of t)) (λ d. results_between Sub t c d) (IsCut t b) (HasEnds Sub t a b) (cut_parts t b)
    (λ d j. ends_by_cases Sub t a b c d i j (sub_takes t)
    (both_parts (settled_between t (shown_range Sub (ends_of c) (ends_of d))) _ (HasEnds Sub t a b) (λ r s. (difference_result t a b c d i j r.lo s.0, difference_result t a b c d i j r.hi s.1)) (settled_ends Overflow t (shown_range Sub (ends_of c) (ends_of d)) (differences_ordered c d)))))
value_ends Mul t a b n =
    then_parts (overlap a (least_of t) (greatest_of t)) (λ c. option_and_then (λ d. results_between Mul t c d) (overlap b (least_of t) (greatest_of t))) (IsCut t a) (HasEnds Mul t a b) (cut_parts t a)
    (λ c i. then_parts (overlap b (least_of t) (greatest_of t)) (λ d. results_between Mul t c d) (IsCut t b) (HasEnds Mul t a b) (cut_parts t b)
    (λ d j. ends_by_cases Mul t a b c d i j (mul_takes t) (product_ends t a b c d i j n)))
value_ends Div t a b n = absurd n
value_ends Rem t a b n = absurd n
value_ends And t a b n = absurd n
value_ends Or t a b n = absurd n
value_ends Xor t a b n = absurd n
value_ends Shl t a b n = absurd n
value_ends Shr t a b n = absurd n

pub value_least : (o : BinOp) (t : IntType) (a b : Interval) → HasLeast o t a b → IsLeastOf (IsResult o t a b) (value_of o t a b)
value_least o t a b n = by_value (value_of o t a b) refl
  where
    held : (v : ℤ) → IsResult o t a b v → IsSomeAnd (value_of o t a b) (λ c. HasNumber c v)
    held v r = value_holds o t a b r.x r.y v r.left r.right r.taken r.result

    by_value : (r : Option Interval) → value_of o t a b ≡ r → IsLeastOf (IsResult o t a b) r
    by_value None e = λ v r. subst (λ p. IsSomeAnd p (λ c. HasNumber c v)) e (held v r)
    by_value (Some c) e =
        let p = subst (λ q. IfSome q (HasEnds o t a b)) e (value_ends o t a b n) in
        ends_least (IsResult o t a b) c (λ v r. subst (λ q. IsSomeAnd q (λ c. HasNumber c v)) e (held v r)) p.0 p.1
