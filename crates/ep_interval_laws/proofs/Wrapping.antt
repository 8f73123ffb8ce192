-- What the numbers between two ends are converted to.
use Rattle.std.proofs.Common.{◌≡◌, ℕ, ◌^◌, ℤ, pos, ◌+ℤ◌, ◌-ℤ◌, ◌*ℤ◌, ◌≤ℤ◌, ◌<ℤ◌, Bool, true, false, arith, refl, sym}
use Rattle.std.proofs.Common.{ap, ◌∙◌, subst}
use Rattle.std.proofs.Math.IntN.{suc_ℤ, pred_ℤ, +ℤ_one, suc_ℤ-*ℤ, pred_ℤ-*ℤ}
use Rattle.std.specs.Prelude.{int_lt}
use Rattle.std.proofs.lemmas.Int.{ints}
use Rattle.ep_int.specs.declared.types.IntType.{IntType}
use Rattle.ep_int.specs.declared.types.IntType.TheVariants.{I8, U8, I16, U16, I32, U32, I64, U64}
use Rattle.ep_int.specs.Types.{bits_of, least_of, greatest_of, InRange, wrapped}
use Rattle.ep_int.proofs.Wrapping.{wrapped_in_range, wrapped_congruent}
use Rattle.ep_range_laws.proofs.Comparisons.{from_between, between_true, from_lt_true, from_lt_false, le_antisym}
use Rattle.ep_range_laws.proofs.Comparisons.{le_self}
use Rattle.ep_range_laws.proofs.Types.{ends_ordered}
use Rattle.ep_range_laws.proofs.Corners.{product_up}
use Rattle.ep_interval_laws.specs.Ends.{in_one_stretch}

-- a type has as many numbers as its width says
pub width : (t : IntType) → (greatest_of t +ℤ pos 1) ≡ (least_of t +ℤ pos (2 ^ bits_of t))
width I8 = refl
width U8 = refl
width I16 = refl
width U16 = refl
width I32 = refl
width U32 = refl
width I64 = refl
width U64 = refl

step : (k j : ℤ) (m : ℕ) → k <ℤ j → ((k *ℤ pos m) +ℤ pos m) ≤ℤ (j *ℤ pos m)
step k j m h =
    let e = +ℤ_one k in let l : suc_ℤ k ≤ℤ j = omega (arith, ints) in
    subst (λ z. z ≤ℤ (j *ℤ pos m)) (suc_ℤ-*ℤ k (pos m)) (product_up (suc_ℤ k) j m l)

pub by_order : {P : Type 0} (a b : ℤ) → (a <ℤ b → P) → (a ≡ b → P) → (b <ℤ a → P) → P
by_order {P} a b f g h = by_tests (int_lt a b) (int_lt b a) refl refl
  where
    by_tests : (p q : Bool) → int_lt a b ≡ p → int_lt b a ≡ q → P
    by_tests true q d e = f (from_lt_true a b d)
    by_tests false true d e = h (from_lt_true b a e)
    by_tests false false d e = g (le_antisym a b (from_lt_false b a e) (from_lt_false a b d))

-- two numbers of a type that differ by a multiple of its size are one
pub same_number : (t : IntType) (a b k j : ℤ) → InRange t a → InRange t b → a +ℤ (k *ℤ pos (2 ^ bits_of t)) ≡ b +ℤ (j *ℤ pos (2 ^ bits_of t)) → a ≡ b
same_number t a b k j h i e = by_order k j below same above
  where
    m : ℕ
    m = 2 ^ bits_of t

    apart : (a b x y w l g : ℤ) → a ≤ℤ g → l ≤ℤ b → (g +ℤ pos 1) ≡ (l +ℤ w) → (x +ℤ w) ≤ℤ y → a +ℤ x ≡ b +ℤ y → ⊥
    apart a b x y w l g p q f r d = omega (arith, ints)

    below : k <ℤ j → a ≡ b
    below l = absurd (apart a b (k *ℤ pos (2 ^ bits_of t)) (j *ℤ pos (2 ^ bits_of t)) (pos (2 ^ bits_of t)) (least_of t) (greatest_of t) h.high i.low (width t) (step k j (2 ^ bits_of t) l) e)

    above : j <ℤ k → a ≡ b
    above l = absurd (apart b a (j *ℤ pos (2 ^ bits_of t)) (k *ℤ pos (2 ^ bits_of t)) (pos (2 ^ bits_of t)) (least_of t) (greatest_of t) i.high h.low (width t) (step j k (2 ^ bits_of t) l) (sym e))

    cancel : (a b x : ℤ) → a +ℤ x ≡ b +ℤ x → a ≡ b
    cancel a b x d = omega (arith, ints)

    same : k ≡ j → a ≡ b
    same f = cancel a b (j *ℤ pos (2 ^ bits_of t)) (subst (λ z. a +ℤ (z *ℤ pos (2 ^ bits_of t)) ≡ b +ℤ (j *ℤ pos (2 ^ bits_of t))) f e)

-- conversion gives the one number of the type that is congruent
pub wrapped_is : (t : IntType) (v z k : ℤ) → InRange t v → z ≡ v +ℤ (k *ℤ pos (2 ^ bits_of t)) → wrapped t z ≡ v
wrapped_is t v z k h e = let c = wrapped_congruent t z in same_number t (wrapped t z) v c.0 k (wrapped_in_range t z) h (sym c.1 ∙ e)

-- ---- numbers that lie in one stretch

one_stretch : (t : IntType) (l h : ℤ) → in_one_stretch t l h ≡ true → (l -ℤ wrapped t l) ≡ (h -ℤ wrapped t h)
one_stretch t l h e =
    let r = from_between (l -ℤ wrapped t l) (h -ℤ wrapped t h) (h -ℤ wrapped t h) (l -ℤ wrapped t l) e in le_antisym _ _ r.0 r.1

-- each number between two that lie in one stretch is converted to one between those that they are converted to
pub wrapped_between : (t : IntType) (l h z : ℤ) → in_one_stretch t l h ≡ true → l ≤ℤ z → z ≤ℤ h → (wrapped t l ≤ℤ wrapped t z) × (wrapped t z ≤ℤ wrapped t h)
wrapped_between t l h z e p q =
    let c = wrapped_congruent t l in
    let s = one_stretch t l h e in
    let i = wrapped_in_range t l in let j = wrapped_in_range t h in
    let v = z -ℤ (l -ℤ wrapped t l) in
    let in_type : InRange t v = record { low = low_of l z (wrapped t l) (least_of t) p i.low; high = high_of h z (l -ℤ wrapped t l) (wrapped t h) (greatest_of t) q (sym s) j.high } in
    let f : wrapped t z ≡ v = wrapped_is t v z c.0 in_type (shifted l z (wrapped t l) (c.0 *ℤ pos (2 ^ bits_of t)) c.1) in
    subst (λ w. (wrapped t l ≤ℤ w) × (w ≤ℤ wrapped t h)) (sym f) (low_of l z (wrapped t l) (wrapped t l) p (le_self _), high_of h z (l -ℤ wrapped t l) (wrapped t h) (wrapped t h) q (sym s) (le_self _))
  where
    low_of : (l z w b : ℤ) → l ≤ℤ z → b ≤ℤ w → b ≤ℤ (z -ℤ (l -ℤ w))
    low_of l z w b p q = omega (arith, ints)

    high_of : (h z d w b : ℤ) → z ≤ℤ h → (h -ℤ w) ≡ d → w ≤ℤ b → (z -ℤ d) ≤ℤ b
    high_of h z d w b p e q = omega (arith, ints)

    shifted : (l z w x : ℤ) → l ≡ w +ℤ x → z ≡ (z -ℤ (l -ℤ w)) +ℤ x
    shifted l z w x e = omega (arith, ints)

-- between two numbers that do not lie in one stretch, two neighbours are converted to the greatest and the least number
pub record Passes (t : IntType) (l h : ℤ) : Type 0 where
  pub end : ℤ
  pub above : (l +ℤ pos 1) ≤ℤ end
  pub below : end ≤ℤ h
  pub to_least : wrapped t end ≡ least_of t
  pub to_greatest : wrapped t (end -ℤ pos 1) ≡ greatest_of t

pub passes : (t : IntType) (l h : ℤ) → l ≤ℤ h → in_one_stretch t l h ≡ false → Passes t l h
passes t l h o e = by_order (wrapped_congruent t l).0 (wrapped_congruent t h).0 found same crossed
  where
    below_of : (l w x y d b g : ℤ) → l ≡ w +ℤ x → w ≤ℤ g → (x +ℤ d) ≤ℤ y → (g +ℤ pos 1) ≡ (b +ℤ d) → (l +ℤ pos 1) ≤ℤ (b +ℤ y)
    below_of l w x y d b g e p q f = omega (arith, ints)

    found : (wrapped_congruent t l).0 <ℤ (wrapped_congruent t h).0 → Passes t l h
    found k =
        let c = wrapped_congruent t l in let d = wrapped_congruent t h in
        let y = d.0 *ℤ pos (2 ^ bits_of t) in
        let i = wrapped_in_range t l in let j = wrapped_in_range t h in
        record {
          end = least_of t +ℤ y;
          above = below_of l (wrapped t l) (c.0 *ℤ pos (2 ^ bits_of t)) y (pos (2 ^ bits_of t)) (least_of t) (greatest_of t) c.1 i.high (step c.0 d.0 (2 ^ bits_of t) k) (width t);
          below = above_of h (wrapped t h) y (least_of t) d.1 j.low;
          to_least = wrapped_is t (least_of t) _ d.0 (record { low = le_self _; high = ends_ordered t }) refl;
          to_greatest = wrapped_is t (greatest_of t) _ (pred_ℤ d.0) (record { low = ends_ordered t; high = le_self _ }) (before (least_of t) (greatest_of t) y (pos (2 ^ bits_of t)) _ (width t) (pred_ℤ-*ℤ d.0 (pos (2 ^ bits_of t))));
        }
      where
        above_of : (h w y b : ℤ) → h ≡ w +ℤ y → b ≤ℤ w → (b +ℤ y) ≤ℤ h
        above_of h w y b e p = omega (arith, ints)

        before : (b g y d x : ℤ) → (g +ℤ pos 1) ≡ (b +ℤ d) → x ≡ y -ℤ d → ((b +ℤ y) -ℤ pos 1) ≡ g +ℤ x
        before b g y d x e f = omega (arith, ints)

    same : (wrapped_congruent t l).0 ≡ (wrapped_congruent t h).0 → Passes t l h
    same f =
        let c = wrapped_congruent t l in let d = wrapped_congruent t h in
        absurd (not_both (in_one_stretch t l h) (between_true (l -ℤ wrapped t l) (h -ℤ wrapped t h) (h -ℤ wrapped t h) (l -ℤ wrapped t l)
        (equal_low l h (wrapped t l) (wrapped t h) _ _ c.1 d.1 (ap (λ k. k *ℤ pos (2 ^ bits_of t)) f)) (equal_low h l (wrapped t h) (wrapped t l) _ _ d.1 c.1 (ap (λ k. k *ℤ pos (2 ^ bits_of t)) (sym f)))) e)
      where
        not_both : (b : Bool) → b ≡ true → b ≡ false → ⊥
        not_both b p q = cc

        equal_low : (l h w v x y : ℤ) → l ≡ w +ℤ x → h ≡ v +ℤ y → x ≡ y → (l -ℤ w) ≤ℤ (h -ℤ v)
        equal_low l h w v x y p q r = omega (arith, ints)

    crossed : (wrapped_congruent t h).0 <ℤ (wrapped_congruent t l).0 → Passes t l h
    crossed k =
        let c = wrapped_congruent t l in let d = wrapped_congruent t h in
        let i = wrapped_in_range t l in let j = wrapped_in_range t h in
        absurd (apart l h (wrapped t l) (wrapped t h) _ _ (pos (2 ^ bits_of t)) (least_of t) (greatest_of t) c.1 d.1 i.low j.high (width t) (step d.0 c.0 (2 ^ bits_of t) k) o)
      where
        apart : (l h w v x y d b g : ℤ) → l ≡ w +ℤ x → h ≡ v +ℤ y → b ≤ℤ w → v ≤ℤ g → (g +ℤ pos 1) ≡ (b +ℤ d) → (y +ℤ d) ≤ℤ x → l ≤ℤ h → ⊥
        apart l h w v x y d b g p q r s f k o = omega (arith, ints)
