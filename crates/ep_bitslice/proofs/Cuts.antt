-- What the functions on segments answer.
use Rattle.std.proofs.Common.{◌≡◌, ℕ, ◌+◌, ◌-◌, ◌*◌, ◌/◌, ◌%◌, ◌^◌, ◌<◌, ◌≤◌, Bool, true, false, ◌&&◌, nat_eq, cond}
use Rattle.ep_int.proofs.Basics.{power-le}
use Rattle.std.proofs.Common.{List, ◌++◌, length, take, drop, append_assoc, bit_and, bit_or, Option, Some, None}
use Rattle.std.proofs.Common.{IfSome, IfNone, sym, refl, ap, ◌∙◌, subst, arith, eqb-true}
use Rattle.std.specs.Int.{w64, trailing_zeros, trailing_ones}
use Rattle.std.proofs.lemmas.List.{take-append-drop}
use Rattle.std.proofs.lemmas.Nat.{pow_pos, mod_below, shr_below, or_lt}
use Rattle.std.proofs.Math.Nat.{mod-eq_of_lt}
use Rattle.ep_bitslice.specs.declared.cell.CellName.{CellName}
use Rattle.ep_bitslice.specs.declared.segment.Segment.{Segment}
use Rattle.ep_bitslice.specs.declared.segment.Segment.TheVariants.{Bits, Fixed}
use Rattle.ep_bitslice.specs.Bits.{Bit, zeros, masked, are_disjoint, either_of, renamed_cell, renamed, mentions}
use Rattle.ep_bitslice.specs.Bits.{is_same_cell}
use Rattle.ep_bitslice.specs.Segments.{fixed_bits, run_bits, segment_bits, segment_width, joined, IsSegment}
use Rattle.ep_bitslice.proofs.Joining.{shape-joined, length-segment_bits, length-run_bits}
use Rattle.ep_bitslice.proofs.Operations.{length_take}
use Rattle.ep_bitslice.proofs.Pieces.{take-fixed_bits, drop-fixed_bits, take-run_bits, drop-run_bits, fixed_bits-mod}
use Rattle.ep_bitslice.proofs.Pieces.{low_ones, fixed_zeros, masked-ones, masked-zeros, zeros_below, ones_below}
use Rattle.ep_bitslice.proofs.Pieces.{disjoint-fixed, either-fixed, either-zeros, run-zeros, disjoint-run}
use Rattle.ep_bitslice.proofs.Pieces.{run-disjoint, runs-meet, disjoint-append, renamed-fixed, renamed-run}
use Rattle.ep_bitslice.proofs.Pieces.{mentions-fixed, mentions-run}

-- ---- without the lowest bits

pub after_run : (s : Segment) (c : CellName) (f t k : ℕ) → s ≡ Bits c f t → k < segment_width s → run_bits c (f + k) (t - (f + k)) ≡ drop k (segment_bits s)
after_run s c f t k e w =
    let b : k < t - f = subst (λ (x : Segment). k < segment_width x) e w in
    let d : t - (f + k) ≡ t - f - k = omega arith in
    sym (ap (λ (x : Segment). drop k (segment_bits x)) e ∙ drop-run_bits c k f (t - f) (omega arith) ∙ ap (run_bits c (f + k)) (sym d))

pub after_fixed : (s : Segment) (v w k : ℕ) → s ≡ Fixed v w → IsSegment s → k < segment_width s → IsSegment (Fixed (v / 2 ^ k) (w - k))
after_fixed s v w k e h b =
    let p : IsSegment (Fixed v w) = subst IsSegment e h in
    let q : k < w = subst (λ (x : Segment). k < segment_width x) e b in
    let j : w ≡ w - k + k = omega arith in
    (omega arith, omega (arith, p.1), shr_below v (w - k) k (subst (λ n. v < 2 ^ n) j p.2))

pub after_fixed_bits : (s : Segment) (v w k : ℕ) → s ≡ Fixed v w → k < segment_width s → fixed_bits (w - k) (v / 2 ^ k) ≡ drop k (segment_bits s)
after_fixed_bits s v w k e b =
    let q : k < w = subst (λ (x : Segment). k < segment_width x) e b in
    sym (ap (λ (x : Segment). drop k (segment_bits x)) e ∙ drop-fixed_bits k w v (omega arith))

-- ---- the lowest bits

pub first_run : (s : Segment) (c : CellName) (f t k : ℕ) → s ≡ Bits c f t → k ≤ segment_width s → run_bits c f (f + k - f) ≡ take k (segment_bits s)
first_run s c f t k e w =
    let b : k ≤ t - f = subst (λ (x : Segment). k ≤ segment_width x) e w in
    let d : f + k - f ≡ k = omega arith in
    sym (ap (λ (x : Segment). take k (segment_bits x)) e ∙ take-run_bits c k f (t - f) b ∙ ap (run_bits c f) (sym d))

pub first_fixed : (v k : ℕ) → 0 < k → k ≤ 64 → IsSegment (Fixed (bit_and v (18446744073709551615 / 2 ^ (64 - k))) k)
first_fixed v k p h = (p, h, rw (low_ones v k h) (mod_below v (2 ^ k) (pow_pos k)))

pub first_fixed_bits : (s : Segment) (v w k : ℕ) → s ≡ Fixed v w → IsSegment s → k ≤ segment_width s → fixed_bits k (bit_and v (18446744073709551615 / 2 ^ (64 - k))) ≡ take k (segment_bits s)
first_fixed_bits s v w k e h b =
    let p : IsSegment (Fixed v w) = subst IsSegment e h in
    let q : k ≤ w = subst (λ (x : Segment). k ≤ segment_width x) e b in
    let m : k ≤ 64 = omega (arith, p.1) in
    rw (low_ones v k m) (fixed_bits-mod k v ∙ sym (ap (λ (x : Segment). take k (segment_bits x)) e ∙ take-fixed_bits k w v q))

pub width_at_most : (s : Segment) → IsSegment s → segment_width s ≤ 64
width_at_most (Bits c f t) h = omega (arith, h.1)
width_at_most (Fixed v w) h = h.1

pub width_positive : (s : Segment) → IsSegment s → 0 < segment_width s
width_positive (Bits c f t) h = omega (arith, h.0)
width_positive (Fixed v w) h = h.0

-- ---- kept bits

pub kept_bits : (s r : Segment) (m k : ℕ) → IsSegment s → m < 2 ^ 64 → k ≤ segment_width s → k ≤ trailing_ones w64 m → segment_width r ≡ k → segment_bits r ≡ take k (segment_bits s) → segment_bits r ≡ masked m (take (segment_width r) (segment_bits s))
kept_bits s r m k p h w t e b =
    let i : k ≤ 64 = omega (arith, width_at_most s p) in
    let n : length (take k (segment_bits s)) ≡ k = length_take k (segment_bits s) (omega (arith, length-segment_bits s)) in
    rw e (b ∙ sym (masked-ones m (take k (segment_bits s)) (λ j q. ones_below m j h (omega arith) (omega arith))))

pub cleared_bits : (s : Segment) (m k : ℕ) → m < 2 ^ 64 → k ≤ segment_width s → k ≤ trailing_zeros w64 m → fixed_bits k 0 ≡ masked m (take k (segment_bits s))
cleared_bits s m k h w t =
    let n : length (take k (segment_bits s)) ≡ k = length_take k (segment_bits s) (omega (arith, length-segment_bits s)) in
    fixed_zeros k ∙ ap zeros (sym n) ∙ sym (masked-zeros m (take k (segment_bits s)) (λ j q. zeros_below m j h (omega arith)))

-- ---- one of both

pub record Chosen (s o : Segment) (r : Option Segment) : Type 0 where
  pub none : IfNone r (are_disjoint (segment_bits s) (segment_bits o) ≡ false)
  pub disjoint : IfSome r (λ _. are_disjoint (segment_bits s) (segment_bits o) ≡ true)
  pub segment : IfSome r IsSegment
  pub width : IfSome r (λ x. segment_width x ≡ segment_width s)
  pub bits_are : IfSome r (λ x. segment_bits x ≡ either_of (segment_bits s) (segment_bits o))

fixed_chosen : (a b w : ℕ) → IsSegment (Fixed a w) → IsSegment (Fixed b w) → Chosen (Fixed a w) (Fixed b w) (cond (nat_eq (bit_and a b) 0) (Some (Fixed (bit_or a b) w)) None)
fixed_chosen a b w p q = by (nat_eq (bit_and a b) 0) (disjoint-fixed w a b p.2 q.2)
  where
    by : (t : Bool) → are_disjoint (fixed_bits w a) (fixed_bits w b) ≡ t → Chosen (Fixed a w) (Fixed b w) (cond t (Some (Fixed (bit_or a b) w)) None)
    by true e = record { none = tt; disjoint = e; segment = (p.0, p.1, or_lt w a b p.2 q.2); width = refl; bits_are = sym (either-fixed w a b) }
    by false e = record { none = e; disjoint = tt; segment = tt; width = tt; bits_are = tt }

run_chosen : (a w : ℕ) (c : CellName) (f t : ℕ) → w ≡ t - f → IsSegment (Fixed a w) → IsSegment (Bits c f t) → Chosen (Fixed a w) (Bits c f t) (cond (nat_eq a 0) (Some (Bits c f t)) None)
run_chosen a w c f t e p q = by (nat_eq a 0) (ap (λ n. are_disjoint (fixed_bits w a) (run_bits c f n)) (sym e) ∙ disjoint-run c f w a p.2) (eqb-true a 0)
  where
    by : (b : Bool) → are_disjoint (fixed_bits w a) (run_bits c f (t - f)) ≡ b → (b ≡ true → a ≡ 0) → Chosen (Fixed a w) (Bits c f t) (cond b (Some (Bits c f t)) None)
    by true d z = record {
      none = tt;
      disjoint = d;
      segment = q;
      width = sym e;
      bits_are =
          sym (ap (λ n. either_of (fixed_bits w n) (run_bits c f (t - f))) (z refl)
          ∙ ap (λ bs. either_of bs (run_bits c f (t - f))) (fixed_zeros w ∙ ap zeros (e ∙ sym (length-run_bits c f (t - f))))
          ∙ either-zeros (run_bits c f (t - f)));
    }
    by false d z = record { none = d; disjoint = tt; segment = tt; width = tt; bits_are = tt }

chosen_run : (c : CellName) (f t a w : ℕ) → t - f ≡ w → IsSegment (Bits c f t) → IsSegment (Fixed a w) → Chosen (Bits c f t) (Fixed a w) (cond (nat_eq a 0) (Some (Bits c f t)) None)
chosen_run c f t a w e q p = by (nat_eq a 0) (ap (λ n. are_disjoint (run_bits c f n) (fixed_bits w a)) e ∙ run-disjoint c f w a p.2) (eqb-true a 0)
  where
    by : (b : Bool) → are_disjoint (run_bits c f (t - f)) (fixed_bits w a) ≡ b → (b ≡ true → a ≡ 0) → Chosen (Bits c f t) (Fixed a w) (cond b (Some (Bits c f t)) None)
    by true d z = record {
      none = tt;
      disjoint = d;
      segment = q;
      width = refl;
      bits_are =
          sym (ap (λ n. either_of (run_bits c f (t - f)) (fixed_bits w n)) (z refl)
          ∙ ap (λ bs. either_of (run_bits c f (t - f)) bs) (fixed_zeros w ∙ ap zeros (sym e))
          ∙ run-zeros c f (t - f));
    }
    by false d z = record { none = d; disjoint = tt; segment = tt; width = tt; bits_are = tt }

runs_chosen : (c : CellName) (f t : ℕ) (d : CellName) (g u : ℕ) → t - f ≡ u - g → IsSegment (Bits c f t) → Chosen (Bits c f t) (Bits d g u) None
runs_chosen c f t d g u e p = record {
  none = ap (λ n. are_disjoint (run_bits c f (t - f)) (run_bits d g n)) (sym e) ∙ runs-meet c f d g (t - f) (omega (arith, p.0));
  disjoint = tt;
  segment = tt;
  width = tt;
  bits_are = tt;
}

-- the same, of segments that are known by equations
pub fixed_fixed : (s o : Segment) (a w b x : ℕ) (r : Option Segment) → s ≡ Fixed a w → o ≡ Fixed b x → segment_width s ≡ segment_width o → IsSegment s → IsSegment o → r ≡ cond (nat_eq (bit_and a b) 0) (Some (Fixed (bit_or a b) w)) None → Chosen s o r
fixed_fixed s o a w b x r e f k p q h =
    let j : w ≡ x = sym (ap segment_width e) ∙ k ∙ ap segment_width f in
    let g : o ≡ Fixed b w = f ∙ ap (Fixed b) (sym j) in
    rw (e, g, h) (fixed_chosen a b w (subst IsSegment e p) (subst IsSegment g q))

pub fixed_run : (s o : Segment) (a w : ℕ) (c : CellName) (g u : ℕ) (r : Option Segment) → s ≡ Fixed a w → o ≡ Bits c g u → segment_width s ≡ segment_width o → IsSegment s → IsSegment o → r ≡ cond (nat_eq a 0) (Some o) None → Chosen s o r
fixed_run s o a w c g u r e f k p q h =
    let j : w ≡ u - g = sym (ap segment_width e) ∙ k ∙ ap segment_width f in
    rw (e, h, f) (run_chosen a w c g u j (subst IsSegment e p) (subst IsSegment f q))

pub run_fixed : (s o : Segment) (c : CellName) (f t b x : ℕ) (r : Option Segment) → s ≡ Bits c f t → o ≡ Fixed b x → segment_width s ≡ segment_width o → IsSegment s → IsSegment o → r ≡ cond (nat_eq b 0) (Some s) None → Chosen s o r
run_fixed s o c f t b x r e g k p q h =
    let j : t - f ≡ x = sym (ap segment_width e) ∙ k ∙ ap segment_width g in
    rw (h, e, g) (chosen_run c f t b x j (subst IsSegment e p) (subst IsSegment g q))

pub run_run : (s o : Segment) (c : CellName) (f t : ℕ) (d : CellName) (g u : ℕ) → s ≡ Bits c f t → o ≡ Bits d g u → segment_width s ≡ segment_width o → IsSegment s → Chosen s o None
run_run s o c f t d g u e h k p =
    let j : t - f ≡ u - g = sym (ap segment_width e) ∙ k ∙ ap segment_width h in
    rw (e, h) (runs_chosen c f t d g u j (subst IsSegment e p))

-- What isn't disjoint in front isn't whatever is above.
pub not_disjoint : (xs ys us vs : List Bit) (k : ℕ) → k ≤ length xs → k ≤ length ys → are_disjoint (take k xs) (take k ys) ≡ false → are_disjoint (xs ++ us) (ys ++ vs) ≡ false
not_disjoint xs ys us vs k p q h =
    let a : xs ++ us ≡ take k xs ++ (drop k xs ++ us) = ap (λ zs. zs ++ us) (sym (take-append-drop k xs)) ∙ append_assoc (take k xs) (drop k xs) us in
    let b : ys ++ vs ≡ take k ys ++ (drop k ys ++ vs) = ap (λ zs. zs ++ vs) (sym (take-append-drop k ys)) ∙ append_assoc (take k ys) (drop k ys) vs in
    rw (a, b) (disjoint-append (take k xs) (take k ys) (drop k xs ++ us) (drop k ys ++ vs) (length_take k xs p ∙ sym (length_take k ys q))
    ∙ ap (λ t. t && are_disjoint (drop k xs ++ us) (drop k ys ++ vs)) h)

-- ---- names

pub run_renamed : (s : Segment) (c : CellName) (f t : ℕ) (from to : CellName) → s ≡ Bits c f t → run_bits (renamed_cell from to c) f (t - f) ≡ renamed from to (segment_bits s)
run_renamed s c f t from to e =
    sym (ap (λ (x : Segment). renamed from to (segment_bits x)) e ∙ renamed-run from to c f (t - f))

pub fixed_renamed : (s : Segment) (v w : ℕ) (from to : CellName) → s ≡ Fixed v w → segment_bits s ≡ renamed from to (segment_bits s)
fixed_renamed s v w from to e = rw e (sym (renamed-fixed from to w v))

pub run_mentioned : (s : Segment) (c : CellName) (f t : ℕ) (d : CellName) → s ≡ Bits c f t → IsSegment s → is_same_cell c d ≡ mentions d (segment_bits s)
run_mentioned s c f t d e h =
    let p : IsSegment (Bits c f t) = subst IsSegment e h in
    rw e (sym (mentions-run d c f (t - f) (omega (arith, p.0))))

pub fixed_mentioned : (s : Segment) (v w : ℕ) (d : CellName) → s ≡ Fixed v w → false ≡ mentions d (segment_bits s)
fixed_mentioned s v w d e = rw e (sym (mentions-fixed d w v))

-- ---- two segments as one

pub shifted_up : (v w x y : ℕ) → v < 2 ^ w → x < 2 ^ y → w + y ≤ 64 → (x * 2 ^ w % 18446744073709551616 ≡ x * 2 ^ w) × (v + x * 2 ^ w < 18446744073709551616)
shifted_up v w x y p q h =
    let a : v + x * 2 ^ w < 2 ^ (w + y) = shape-joined (Fixed v w) (Fixed x y) _ p q refl in
    let b : 2 ^ (w + y) ≤ 2 ^ 64 = power-le (w + y) 64 h in
    let c : x * 2 ^ w < 18446744073709551616 = omega (arith, a, b) in
    (mod-eq_of_lt c, omega (arith, a, b))

pub fixed_joined : (s o : Segment) (v w x y : ℕ) → s ≡ Fixed v w → o ≡ Fixed x y → IsSegment s → IsSegment o → segment_width s + segment_width o ≤ 64 → (x * 2 ^ w % 18446744073709551616 ≡ x * 2 ^ w) × (v + x * 2 ^ w < 18446744073709551616)
fixed_joined s o v w x y e f p q h =
    let i : IsSegment (Fixed v w) = subst IsSegment e p in
    let j : IsSegment (Fixed x y) = subst IsSegment f q in
    let a : segment_width s ≡ w = ap segment_width e in
    let b : segment_width o ≡ y = ap segment_width f in
    shifted_up v w x y i.2 j.2 (omega (arith, a, b, h))

pub joined_is : (s o : Segment) (v w x y z : ℕ) → s ≡ Fixed v w → o ≡ Fixed x y → z ≡ x * 2 ^ w → Some (Fixed (v + z) (w + y)) ≡ joined s o
joined_is s o v w x y z e f g = rw (e, f, g) refl
