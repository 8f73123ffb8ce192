-- Intervals keep ranges and single numbers.
use Rattle.std.proofs.Common.{◌≡◌, ℕ, ℤ, pos, ◌+ℤ◌, ◌*ℤ◌, ◌≤ℤ◌, Bool, true, false, cond, ◌&&◌, Option}
use Rattle.std.proofs.Common.{Result, Ok, Err, IfSome, refl, sym, ap, ◌∙◌, subst, arith}
use Rattle.std.specs.Int.{int_min, int_max}
use Rattle.std.proofs.lemmas.Int.{ints, clamps}
use Rattle.ep_int.specs.declared.types.IntType.TheVariants.{I64}
use Rattle.ep_int.specs.declared.types.BinOp.TheVariants.{Add, Mul}
use Rattle.ep_int.specs.declared.types.Undef.{Undef}
use Rattle.ep_int.specs.declared.types.Undef.TheVariants.{Overflow}
use Rattle.ep_int.specs.Types.{least_of, greatest_of}
use Rattle.ep_int.specs.Arith.{int_eq, arith_of}
use Rattle.ep_range_laws.specs.Ranges.{Encloses}
use Rattle.ep_range_laws.specs.Faults.{least_of_four, greatest_of_four}
use Rattle.ep_range_laws.proofs.Options.{then_if}
use Rattle.ep_range_laws.proofs.Comparisons.{lt_false, le_self, le_trans}
use Rattle.ep_range_laws.proofs.Corners.{product_up}
use Rattle.ep_congruence_laws.proofs.Results.{signed_result}
use Rattle.ep_interval_laws.specs.Ends.{nearest_number, low_limit, high_limit, lowered, raised}
use Rattle.ep_interval_laws.specs.Interval.{Interval, ends_of, single_of, overlap}
use Rattle.ep_interval_laws.specs.Results.{clipped, single_result, results_between}
use Rattle.ep_interval_laws.specs.Domain.{interval_ops}
use Rattle.ep_interval_laws.proofs.Between.{same_ends, between_parts}
use Rattle.ep_tame_numbers.proofs.Parts.{KeepsRanges, KeepsSingles}

-- between these ends
abbrev Inside : ℤ × ℤ → Interval → Type 0
Inside r c = Encloses r (ends_of c)

-- ---- ranges

cut_in : (a : Interval) (lo hi : ℤ) → IfSome (overlap a lo hi) (λ c. Inside (lo, hi) c × Inside (ends_of a) c)
cut_in a lo hi =
    between_parts (int_max a.lo lo) (int_min a.hi hi) (λ c. Inside (lo, hi) c × Inside (ends_of a) c) (λ p. (
      record { low = omega (arith, ints, clamps); high = omega (arith, ints, clamps) },
      record { low = omega (arith, ints, clamps); high = omega (arith, ints, clamps) },
    ))

part_in : (a : Interval) (lo hi : ℤ) → IfSome (overlap a lo hi) (Inside (ends_of a))
part_in a lo hi =
    between_parts (int_max a.lo lo) (int_min a.hi hi) (Inside (ends_of a)) (λ p.
    record { low = omega (arith, ints, clamps); high = omega (arith, ints, clamps) })

one_in : (o : Result ℤ Undef) (lo hi : ℤ) → ((v : ℤ) → o ≡ Ok v → (lo ≤ℤ v) × (v ≤ℤ hi))
    → IfSome (single_result o) (Inside (lo, hi))
one_in (Err u) lo hi go = tt
one_in (Ok v) lo hi go =
    let h = go v refl in between_parts v v (Inside (lo, hi)) (λ p. record { low = h.0; high = h.1 })

clipped_in : (l h lo hi : ℤ) → lo ≤ℤ l → h ≤ℤ hi → IfSome (clipped I64 (l, h)) (Inside (lo, hi))
clipped_in l h lo hi p q =
    between_parts (int_max l (least_of I64)) (int_min h (greatest_of I64)) (Inside (lo, hi)) (λ r.
    record { low = omega (arith, ints, clamps); high = omega (arith, ints, clamps) })

either_in : (t : Bool) (o n : Option Interval) (r : ℤ × ℤ) → IfSome o (Inside r) → IfSome n (Inside r)
    → IfSome (cond t o n) (Inside r)
either_in true o n r h k = h
either_in false o n r h k = k

-- of two operands inside of two ranges
sum_of : (a b : ℤ × ℤ) (x y : Interval) → Inside a x → Inside b y
    → IfSome (results_between Add I64 x y) (Inside (a.0 +ℤ b.0, a.1 +ℤ b.1))
sum_of a b x y h k =
    let xl = h.low in let xh = h.high in let yl = k.low in let yh = k.high in
    let xo = x.ends.ordered in let yo = y.ends.ordered in
    either_in (int_eq x.lo x.hi && int_eq y.lo y.hi) (single_result (arith_of Add I64 x.lo y.lo))
    (clipped I64 (x.lo +ℤ y.lo, x.hi +ℤ y.hi)) (a.0 +ℤ b.0, a.1 +ℤ b.1)
    (one_in (arith_of Add I64 x.lo y.lo) (a.0 +ℤ b.0) (a.1 +ℤ b.1) (λ v e.
    let s = signed_result Overflow I64 (x.lo +ℤ y.lo) v refl e in (omega (arith, ints), omega (arith, ints))))
    (clipped_in (x.lo +ℤ y.lo) (x.hi +ℤ y.hi) (a.0 +ℤ b.0) (a.1 +ℤ b.1) (omega (arith, ints)) (omega (arith, ints)))

four_low : (l p q : ℤ) → l ≤ℤ p → p ≤ℤ q → l ≤ℤ least_of_four p p q q
four_low l p q h k = omega (arith, ints, clamps)

four_high : (u p q : ℤ) → q ≤ℤ u → p ≤ℤ q → greatest_of_four p p q q ≤ℤ u
four_high u p q h k = omega (arith, ints, clamps)

-- the ends of the products of an interval by two numbers
abbrev corners : Interval → ℤ → ℤ → ℤ × ℤ
corners x c d = (
  least_of_four (x.lo *ℤ c) (x.lo *ℤ d) (x.hi *ℤ c) (x.hi *ℤ d),
  greatest_of_four (x.lo *ℤ c) (x.lo *ℤ d) (x.hi *ℤ c) (x.hi *ℤ d),
)

times : (a : ℤ × ℤ) (x y : Interval) (k : ℕ) → Inside a x → y.lo ≡ pos k → y.hi ≡ pos k
    → IfSome (results_between Mul I64 x y) (Inside (a.0 *ℤ pos k, a.1 *ℤ pos k))
times a x y k h e f =
    let low = product_up a.0 x.lo k h.low in
    let mid = product_up x.lo x.hi k x.ends.ordered in
    let high = product_up x.hi a.1 k h.high in
    either_in (int_eq x.lo x.hi && int_eq y.lo y.hi) (single_result (arith_of Mul I64 x.lo y.lo))
    (clipped I64 (corners x y.lo y.hi)) (a.0 *ℤ pos k, a.1 *ℤ pos k)
    (one_in (arith_of Mul I64 x.lo y.lo) (a.0 *ℤ pos k) (a.1 *ℤ pos k) (λ v d.
    let s : v ≡ x.lo *ℤ pos k = signed_result Overflow I64 (x.lo *ℤ y.lo) v refl d ∙ ap (λ z. x.lo *ℤ z) e in (
      subst (λ z. (a.0 *ℤ pos k) ≤ℤ z) (sym s) low,
      subst (λ z. z ≤ℤ (a.1 *ℤ pos k)) (sym s) (le_trans _ _ _ mid high),
    )))
    (subst (λ z. IfSome (clipped I64 (corners x z y.hi)) (Inside (a.0 *ℤ pos k, a.1 *ℤ pos k))) (sym e)
    (subst (λ z. IfSome (clipped I64 (corners x (pos k) z)) (Inside (a.0 *ℤ pos k, a.1 *ℤ pos k))) (sym f)
    (clipped_in (least_of_four (x.lo *ℤ pos k) (x.lo *ℤ pos k) (x.hi *ℤ pos k) (x.hi *ℤ pos k))
    (greatest_of_four (x.lo *ℤ pos k) (x.lo *ℤ pos k) (x.hi *ℤ pos k) (x.hi *ℤ pos k)) (a.0 *ℤ pos k) (a.1 *ℤ pos k)
    (four_low (a.0 *ℤ pos k) (x.lo *ℤ pos k) (x.hi *ℤ pos k) low mid)
    (four_high (a.1 *ℤ pos k) (x.lo *ℤ pos k) (x.hi *ℤ pos k) high mid))))

-- an interval inside of one number
pub one_end : (l h v : ℤ) → l ≤ℤ h → Encloses (v, v) (l, h) → (l ≡ v) × (h ≡ v)
one_end l h v o e = let p = e.low in let q = e.high in (omega (arith, ints), omega (arith, ints))

pub interval_ranges : KeepsRanges interval_ops
interval_ranges = record {
  cut = cut_in;
  sum = λ a b. then_if (Inside (ends_of a)) (Inside (a.lo +ℤ b.lo, a.hi +ℤ b.hi))
      (overlap a (least_of I64) (greatest_of I64)) _ (part_in a (least_of I64) (greatest_of I64))
      (λ x h. then_if (Inside (ends_of b)) (Inside (a.lo +ℤ b.lo, a.hi +ℤ b.hi))
      (overlap b (least_of I64) (greatest_of I64)) (results_between Add I64 x)
      (part_in b (least_of I64) (greatest_of I64)) (λ y i. sum_of (ends_of a) (ends_of b) x y h i));
  product = λ a b k e. then_if (Inside (ends_of a)) (Inside (a.lo *ℤ pos k, a.hi *ℤ pos k))
      (overlap a (least_of I64) (greatest_of I64)) _ (part_in a (least_of I64) (greatest_of I64))
      (λ x h. then_if (Inside (ends_of b)) (Inside (a.lo *ℤ pos k, a.hi *ℤ pos k))
      (overlap b (least_of I64) (greatest_of I64)) (results_between Mul I64 x)
      (part_in b (least_of I64) (greatest_of I64))
      (λ y i. let o = one_end y.lo y.hi (pos k) y.ends.ordered (subst (λ (r : ℤ × ℤ). Encloses r (ends_of y)) e i) in
      times (ends_of a) x y k h o.0 o.1));
}

-- ---- single numbers

cut_single : (v lo hi : ℤ) → IfSome (overlap (single_of v) lo hi) (λ c. c ≡ single_of v)
cut_single v lo hi =
    between_parts (int_max (nearest_number v) lo) (int_min (nearest_number v) hi) (λ c. c ≡ single_of v) (λ p.
    let o = p.ordered in let e = at (nearest_number v) lo hi o in
    same_ends _ _ p _ _ (single_of v).ends e.0 e.1)
  where
    at : (n lo hi : ℤ) → int_max n lo ≤ℤ int_min n hi → (int_max n lo ≡ n) × (int_min n hi ≡ n)
    at n lo hi o = (omega (arith, ints, clamps), omega (arith, ints, clamps))

min_same : (n : ℤ) → int_min n n ≡ n
min_same n = omega (arith, ints, clamps)

max_same : (n : ℤ) → int_max n n ≡ n
max_same n = omega (arith, ints, clamps)

low_same : (n : ℤ) → lowered n n ≡ n
low_same n = ap (λ t. cond t (low_limit n) n) (lt_false n n (le_self n))

high_same : (n : ℤ) → raised n n ≡ n
high_same n = ap (λ t. cond t (high_limit n) n) (lt_false n n (le_self n))

pub interval_singles : KeepsSingles interval_ops
interval_singles = record {
  cut = λ v lo hi i. cut_single v lo hi;
  join = λ v i. same_ends _ _ _ _ _ (single_of v).ends (min_same (nearest_number v)) (max_same (nearest_number v));
  widen = λ v i. same_ends _ _ _ _ _ (single_of v).ends (low_same (nearest_number v)) (high_same (nearest_number v));
}
