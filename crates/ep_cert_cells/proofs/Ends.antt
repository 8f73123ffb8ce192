-- Numbers from bytes.
use Rattle.std.proofs.Common.{◌≡◌, ℕ, zero, suc, ◌+◌, ◌-◌, ◌*◌, ◌<◌, ◌≤◌, ◌^◌, false, cond, arith, refl, ap, sym}
use Rattle.std.proofs.Common.{◌∙◌, subst, List, ℤ, pos}
use Rattle.std.specs.Prelude.{negsuc, Option, Some, None, IsSome, IfSome, ◌↔◌, int_lt}
use Rattle.std.specs.Int.{int_min, int_max}
use Rattle.std.specs.Option.{option_and_then}
use Rattle.std.proofs.Math.Nat.{pow-suc, pow-le-pow_right}
use Rattle.std.proofs.lemmas.Int.{ints}
use Rattle.ep_int.specs.declared.types.IntType.TheVariants.{I64, U64}
use Rattle.ep_int.specs.Types.{least_of, greatest_of}
use Rattle.ep_int.proofs.Arithmetic.{le_test}
use Rattle.ep_int.proofs.Basics.{true_and_false}
use Rattle.ep_domain.specs.Pairs.{pair_of}
use Rattle.ep_range_laws.specs.Ranges.{IsRange}
use Rattle.ep_range_laws.proofs.Comparisons.{le_false, lt_false, le_trans}
use Rattle.ep_interval_laws.specs.Ends.{nearest_number}
use Rattle.ep_interval_laws.specs.Interval.{Interval, interval, between, single_of, join_of}
use Rattle.ep_interval_laws.proofs.Between.{between_some, same_ends}
use Rattle.ep_interval_laws.proofs.Simple.{nearest_same}
use Rattle.ep_congruence_laws.specs.Classes.{class}
use Rattle.ep_congruence_domain.specs.Congruence.{Congruence, AreOfClass, class_of, formed}
use Rattle.ep_congruence_domain.proofs.Formed.{formed_some}
use Rattle.ep_congruence.proofs.Machine.{of_code}
use Rattle.ep_cert_cells.specs.Numbers.{Numbers}
use Rattle.ep_cert_cells.specs.Reading.{then_at, before, both_at, signed_at, congruence_of, number_of, number_from}
use Rattle.ep_cert_cells.specs.Reading.{number_at}
use Rattle.ep_cert_cells.proofs.Readers.{both_goes}

-- ---- bytes

pub byte_more : (w b n : ℕ) → 0 < w → b < 256 → n < 256 ^ (w - 1) → b + 256 * n < 256 ^ w
byte_more zero b n p h k = absurd (omega arith)
byte_more (suc w) b n p h k =
    let e : suc w - 1 ≡ w = omega arith in
    let m : n < 256 ^ w = subst (λ (x : ℕ). n < 256 ^ x) e k in
    let q = pow-suc 256 w in
    omega (arith, m, q)

pub at_most : (w : ℕ) → w ≤ 16 → 256 ^ w ≤ 340282366920938463463374607431768211456
at_most w h = let p : 0 < 256 = omega arith in pow-le-pow_right p h

-- ---- numbers

pub joined_ends : (lo hi : ℤ) (a b r : Interval) → IsRange lo hi → a ≡ single_of lo → b ≡ single_of hi → r ≡ join_of a b
    → Some r ≡ between lo hi
joined_ends lo hi a b r p ea eb er =
    let l : nearest_number lo ≡ lo =
    nearest_same lo (record { low = p.above; high = le_trans lo hi (greatest_of U64) p.ordered p.below }) in
    let h : nearest_number hi ≡ hi =
    nearest_same hi (record { low = le_trans (least_of I64) lo hi p.above p.ordered; high = p.below }) in
    let t : int_lt hi lo ≡ false = lt_false hi lo p.ordered in
    let least : int_min (nearest_number lo) (nearest_number hi) ≡ lo =
    ap (λ x. int_min x (nearest_number hi)) l ∙ ap (int_min lo) h ∙ ap (λ c. cond c hi lo) t in
    let most : int_max (nearest_number lo) (nearest_number hi) ≡ hi =
    ap (λ x. int_max x (nearest_number hi)) l ∙ ap (int_max lo) h ∙ ap (λ c. cond c lo hi) t in
    let e : r ≡ join_of (single_of lo) (single_of hi) = er ∙ ap (λ x. join_of x b) ea ∙ ap (join_of (single_of lo)) eb in
    let s : join_of (single_of lo) (single_of hi) ≡ interval lo hi p =
    same_ends _ _ (join_of (single_of lo) (single_of hi)).ends lo hi p least most in
    ap Some (e ∙ s) ∙ sym (between_some lo hi p)

itself : (c : Congruence) → congruence_of c.remainder (pos c.modulus) ≡ Some c
itself c =
    ap (λ b. cond b (formed (class_of c)) None) (le_test (pos 0) (pos c.modulus) (omega (arith, ints)))
    ∙ formed_some (class_of c) c.valid

nothing : (o : Option Congruence) → (IsSome o → ⊥) → o ≡ None
nothing None h = refl
nothing (Some c) h = absurd (h refl)

pub of_is : (r m : ℤ) (o : Option Congruence) → (IsSome o ↔ AreOfClass r m)
    → IfSome o (λ c. (c.remainder ≡ r) × (pos c.modulus ≡ m)) → o ≡ congruence_of r m
of_is r m (Some c) h v =
    sym (ap (λ x. congruence_of x m) (sym v.0) ∙ ap (congruence_of c.remainder) (sym v.1) ∙ itself c)
of_is r (negsuc k) None h v =
    sym (ap (λ b. cond b (formed (class r (suc k))) None) (le_false (pos 0) (negsuc k) (omega (arith, ints))))
of_is r (pos k) None h v =
    sym (ap (λ b. cond b (formed (class r k)) None) (le_test (pos 0) (pos k) (omega (arith, ints)))
    ∙ nothing (formed (class r k)) (λ s. true_and_false false
    (h.1 ((of_code r (pos k) k (formed (class r k)) (omega (arith, ints)) refl refl).0 s)) refl))

pub no_class : (lo hi r m : ℤ) (a : Interval) → Some a ≡ between lo hi → None ≡ congruence_of r m
    → None ≡ number_of lo hi r m
unfolding number_of
no_class lo hi r m a e f =
    sym (ap (option_and_then (λ x. option_and_then (pair_of x) (congruence_of r m))) (sym e)
    ∙ ap (option_and_then (pair_of a)) (sym f))

pub no_range : (lo hi r m : ℤ) → None ≡ between lo hi → None ≡ number_of lo hi r m
unfolding number_of
no_range lo hi r m e = sym (ap (option_and_then (λ x. option_and_then (pair_of x) (congruence_of r m))) (sym e))

pub paired : (lo hi r m : ℤ) (a : Interval) (c : Congruence) (o : Option Numbers) → Some a ≡ between lo hi
    → Some c ≡ congruence_of r m → o ≡ pair_of a c → o ≡ number_of lo hi r m
unfolding number_of
paired lo hi r m a c o e f g =
    g ∙ sym (ap (option_and_then (λ x. option_and_then (pair_of x) (congruence_of r m))) (sym e)
    ∙ ap (option_and_then (pair_of a)) (sym f))

pub number_read : (xs us bs cs ds : List ℕ) (lo hi r m : ℤ) (o : Option Numbers) → Some (lo, us) ≡ signed_at xs
    → Some (hi, bs) ≡ signed_at us → Some (r, cs) ≡ signed_at bs → Some (m, ds) ≡ signed_at cs
    → o ≡ number_of lo hi r m → before o ds ≡ number_at xs
unfolding number_at
number_read xs us bs cs ds lo hi r m o e f g h k =
    ap (λ (n : Option Numbers). before n ds) k
    ∙ sym (ap (λ (p : Option ((ℤ × (ℤ × (ℤ × ℤ))) × List ℕ)). then_at p (λ q zs. before (number_from q) zs))
    (both_goes signed_at (both_at signed_at (both_at signed_at signed_at)) xs us ds lo (hi, (r, m)) e
    (sym (both_goes signed_at (both_at signed_at signed_at) us bs ds hi (r, m) f
    (sym (both_goes signed_at signed_at bs cs ds r m g h))))))
