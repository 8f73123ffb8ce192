-- Laws of operators on classes.
use Prim.Native.Nat.{◌∣◌}
use Rattle.ep_congruence_laws.proofs.Multiples.{eq_zero}
use Rattle.ep_int.proofs.Arithmetic.{in_range_some_type, le_fact}
use Rattle.ep_int.proofs.Basics.{ok-injective}
use Rattle.std.proofs.lemmas.Bool.{leb-true}
use Rattle.std.proofs.Common.{◌≡◌, ℕ, ◌*◌, ◌^◌, ◌≤◌, ℤ, pos, negsuc, ◌+ℤ◌, ◌-ℤ◌, ◌*ℤ◌, ◌≤ℤ◌, ◌<ℤ◌, Bool, true, false}
use Rattle.std.proofs.Common.{cond, ◌&&◌, Option, Some, None, Result, Ok, Err, nat_eq, nat_le, arith, refl, sym, ap}
use Rattle.std.proofs.Common.{◌∙◌, subst}
use Rattle.std.specs.Prelude.{unsigned_abs, int_le, int_lt, IsSomeAnd}
use Rattle.std.specs.Option.{unwrap_or}
use Rattle.std.proofs.Math.IntN.{*ℤ_comm, pos-*ℤ-pos}
use Rattle.std.proofs.lemmas.Int.{ints}
use Rattle.std.proofs.Math.Pow.{pow_mono}
use Rattle.std.proofs.lemmas.Nat.Gcd.{dvd_refl, dvd_trans}
use Rattle.std.proofs.Math.Nat.{one-dvd}
use Rattle.std.proofs.lemmas.Bool.{and_parts}
use Rattle.ep_int.specs.declared.types.IntType.{IntType}
use Rattle.ep_int.specs.declared.types.IntType.TheVariants.{I8, U8, I16, U16, I32, U32, I64, U64}
use Rattle.ep_int.specs.declared.types.BinOp.{BinOp}
use Rattle.ep_int.specs.declared.types.BinOp.TheVariants.{Add, Sub, Mul, Div, Rem, And, Or, Xor, Shl, Shr}
use Rattle.ep_int.specs.declared.types.Undef.{Undef}
use Rattle.ep_int.specs.declared.types.Undef.TheVariants.{Overflow, Shift}
use Rattle.ep_int.specs.Types.{bits_of, is_signed, least_of, greatest_of, InRange, wrapped}
use Rattle.ep_int.specs.Arith.{is_in_range, settled, is_amount, arith_of, IsOfSomeType, IsRightOperand}
use Rattle.ep_int.proofs.Wrapping.{wrapped_same}
use Rattle.ep_int.proofs.Arithmetic.{arith_in_range}
use Rattle.ep_range_laws.specs.Ranges.{LiesIn}
use Rattle.ep_range_laws.proofs.Types.{least_unsigned}
use Rattle.ep_range_laws.proofs.Corners.{product_up}
use Rattle.ep_range_laws.proofs.Comparisons.{from_lt_true, from_lt_false, le_self, le_trans}
use Rattle.ep_congruence_laws.specs.Multiples.{IsMultiple, gcd}
use Rattle.ep_congruence_laws.specs.Classes.{Class, everything, one, is_one, greatest_modulus, is_class, reduced}
use Rattle.ep_congruence_laws.specs.Classes.{edges_of}
use Rattle.ep_congruence_laws.specs.Results.{ends_of, sum_leaves, difference_leaves, product_leaves, kept_modulus}
use Rattle.ep_congruence_laws.specs.Results.{limited, sum_of, difference_of, products, are_small, multiples_of}
use Rattle.ep_congruence_laws.specs.Results.{past_limits, product_at, product_modulus, product_of, shifted_of}
use Rattle.ep_congruence_laws.specs.Results.{single_result, results_of, results_between}
use Rattle.ep_congruence_laws.proofs.Multiples.{times_difference, times_assoc, multiple_sum, multiple_difference}
use Rattle.ep_congruence_laws.proofs.Multiples.{multiple_product, multiple_of, multiple_by_size}
use Rattle.ep_congruence_laws.proofs.Classes.{chain, turn, in_reduced, class_with, class_one}
use Rattle.ep_congruence_laws.proofs.Operations.{In, Is, gcd_left, gcd_right, one_member}
use Rattle.ep_congruence_laws.proofs.Cuts.{itself_in, edges_hold, wrapped_apart, turn_small, one_class}

-- a result: a class that a value may be, with the number
abbrev pub Gives : Class → ℤ → Type 0
Gives c v = Is c × In c v

gives : (r v : ℤ) (m : ℕ) → m ≤ greatest_modulus → IsOfSomeType v → IsMultiple m (v -ℤ r) → Gives (reduced r m) v
gives r v m l i h = (class_with r v m l i h, in_reduced r v m h)

pub of_one : (z : ℤ) → IsMultiple 1 z
of_one z = multiple_by_size 1 z (one-dvd (unsigned_abs z))

gives_all : (v : ℤ) → Gives everything v
gives_all v = (refl, of_one (v -ℤ pos 0))

-- ---- what the type makes of an exact result

by_signed : {P : Type 0} (t : IntType) → (is_signed t ≡ true → P) → (is_signed t ≡ false → P) → P
by_signed {P} t f g = at (is_signed t) refl
  where
    at : (b : Bool) → is_signed t ≡ b → P
    at true e = f e
    at false e = g e

not_err : {P : Type 0} (u : Undef) (v : ℤ) → ◌≡◌ {A = Result ℤ Undef} (Err u) (Ok v) → P
not_err u v e = absurd cc

pub signed_result : (u : Undef) (t : IntType) (e v : ℤ) → is_signed t ≡ true → settled u t e ≡ Ok v → v ≡ e
signed_result u t e v s h = at (is_in_range t e) (sym (ap (λ b. cond b (cond (is_in_range t e) (Ok e) (Err u)) (Ok (wrapped t e))) s) ∙ h)
  where
    at : (b : Bool) → ◌≡◌ {A = Result ℤ Undef} (cond b (Ok e) (Err u)) (Ok v) → v ≡ e
    at true k = sym (ok-injective e v k)
    at false k = not_err u v k

unsigned_result : (u : Undef) (t : IntType) (e v : ℤ) → is_signed t ≡ false → settled u t e ≡ Ok v → v ≡ wrapped t e
unsigned_result u t e v s h = sym (ok-injective (wrapped t e) v (sym (ap (λ b. cond b (cond (is_in_range t e) (Ok e) (Err u)) (Ok (wrapped t e))) s) ∙ h))

kept_signed : (t : IntType) (l : Bool) (m : ℕ) → is_signed t ≡ true → kept_modulus t l m ≡ m
kept_signed t l m s = ap (λ b. cond b m (cond l (gcd m (2 ^ bits_of t)) m)) s

kept_unsigned : (t : IntType) (l : Bool) (m : ℕ) → is_signed t ≡ false → kept_modulus t l m ≡ cond l (gcd m (2 ^ bits_of t)) m
kept_unsigned t l m s = ap (λ b. cond b m (cond l (gcd m (2 ^ bits_of t)) m)) s

-- The result is congruent to the exact one by the modulus that is kept.
settled_member : (u : Undef) (t : IntType) (e v r : ℤ) (m : ℕ) (l : Bool) → settled u t e ≡ Ok v → IsMultiple m (e -ℤ r) → (l ≡ false → is_signed t ≡ false → InRange t e) → IsMultiple (kept_modulus t l m) (v -ℤ r)
settled_member u t e v r m l h k inside = by_signed t at_signed at_unsigned
  where
    at_signed : is_signed t ≡ true → IsMultiple (kept_modulus t l m) (v -ℤ r)
    at_signed s = subst (λ n. IsMultiple n (v -ℤ r)) (sym (kept_signed t l m s)) (subst (λ z. IsMultiple m (z -ℤ r)) (sym (signed_result u t e v s h)) k)

    at : (b : Bool) → l ≡ b → is_signed t ≡ false → IsMultiple (cond b (gcd m (2 ^ bits_of t)) m) (wrapped t e -ℤ r)
    at true d s =
        let g = gcd m (2 ^ bits_of t) in
        chain g (wrapped t e) e r (turn g e (wrapped t e) (multiple_of g (2 ^ bits_of t) _ (gcd_right m (2 ^ bits_of t)) (wrapped_apart t e))) (multiple_of g m _ (gcd_left m (2 ^ bits_of t)) k)
    at false d s = subst (λ z. IsMultiple m (z -ℤ r)) (sym (wrapped_same t e (inside d s))) k

    at_unsigned : is_signed t ≡ false → IsMultiple (kept_modulus t l m) (v -ℤ r)
    at_unsigned s = subst (λ n. IsMultiple n (v -ℤ r)) (sym (kept_unsigned t l m s)) (subst (λ z. IsMultiple (cond l (gcd m (2 ^ bits_of t)) m) (z -ℤ r)) (sym (unsigned_result u t e v s h)) (at l refl s))

pub limited_small : (m : ℕ) → limited m ≤ greatest_modulus
limited_small m = at (nat_le m greatest_modulus) refl
  where
    at : (t : Bool) → nat_le m greatest_modulus ≡ t → cond t m 1 ≤ greatest_modulus
    at true e = leb-true m greatest_modulus e
    at false e = omega arith

limited_divides : (m : ℕ) → limited m ∣ m
limited_divides m = at (nat_le m greatest_modulus)
  where
    at : (t : Bool) → cond t m 1 ∣ m
    at true = dvd_refl m
    at false = one-dvd m

-- ---- members inside the type

ends_hold : (t : IntType) (c : Class) (x : ℤ) → InRange t x → In c x → LiesIn (ends_of t c) x
ends_hold t c x i h = at (nat_eq c.modulus 0) refl
  where
    some : (o : Option (ℤ × ℤ)) → IsSomeAnd o (λ e. LiesIn e x) → LiesIn (unwrap_or o (least_of t, greatest_of t)) x
    some None k = absurd k
    some (Some e) k = k

    at : (b : Bool) → nat_eq c.modulus 0 ≡ b → LiesIn (cond b (c.remainder, c.remainder) (unwrap_or (edges_of c (least_of t) (greatest_of t)) (least_of t, greatest_of t))) x
    at true e = let s = one_member c x (eq_zero c.modulus e) h in record { low = subst (λ y. c.remainder ≤ℤ y) (sym s) (le_self c.remainder); high = subst (λ y. y ≤ℤ c.remainder) (sym s) (le_self c.remainder) }
    at false e = some (edges_of c (least_of t) (greatest_of t)) (edges_hold c (least_of t) (greatest_of t) x (in_range_some_type t x i) h i.low i.high)

-- ---- sums and differences

pub sum_members : (x y a b : ℤ) → (x -ℤ a) +ℤ (y -ℤ b) ≡ (x +ℤ y) -ℤ (a +ℤ b)
sum_members x y a b = omega (arith, ints)

pub difference_members : (x y a b : ℤ) → (x -ℤ a) -ℤ (y -ℤ b) ≡ (x -ℤ y) -ℤ (a -ℤ b)
difference_members x y a b = omega (arith, ints)

limited_gives : (r v : ℤ) (m : ℕ) → IsOfSomeType v → IsMultiple m (v -ℤ r) → Gives (reduced r (limited m)) v
limited_gives r v m i h = gives r v (limited m) (limited_small m) i (multiple_of _ m _ (limited_divides m) h)

pub sum_gives : (t : IntType) (a b : Class) (x y v : ℤ) → In a x → In b y → InRange t x → InRange t y → arith_of Add t x y ≡ Ok v → IsOfSomeType v → Gives (sum_of t a b) v
sum_gives t a b x y v h k i j e n =
    let g = gcd a.modulus b.modulus in
    limited_gives (a.remainder +ℤ b.remainder) v _ n
    (settled_member Overflow t (x +ℤ y) v (a.remainder +ℤ b.remainder) g (sum_leaves t (ends_of t a) (ends_of t b)) e
    (subst (IsMultiple g) (sum_members x y a.remainder b.remainder) (multiple_sum g _ _ (multiple_of g a.modulus _ (gcd_left a.modulus b.modulus) h) (multiple_of g b.modulus _ (gcd_right a.modulus b.modulus) k)))
    inside)
  where
    last : (l g x y p q : ℤ) → l ≡ pos 0 → l ≤ℤ x → l ≤ℤ y → x ≤ℤ p → y ≤ℤ q → (p +ℤ q) ≤ℤ g → (l ≤ℤ (x +ℤ y)) × ((x +ℤ y) ≤ℤ g)
    last l g x y p q a b c d e f = (omega (arith, ints), omega (arith, ints))

    inside : sum_leaves t (ends_of t a) (ends_of t b) ≡ false → is_signed t ≡ false → InRange t (x +ℤ y)
    inside l s =
        let p = ends_hold t a x i h in let q = ends_hold t b y j k in
        let r = last (least_of t) (greatest_of t) x y (ends_of t a).1 (ends_of t b).1 (least_unsigned t s) i.low j.low p.high q.high (from_lt_false _ _ l) in
        record { low = r.0; high = r.1 }

pub difference_gives : (t : IntType) (a b : Class) (x y v : ℤ) → In a x → In b y → InRange t x → InRange t y → arith_of Sub t x y ≡ Ok v → IsOfSomeType v → Gives (difference_of t a b) v
difference_gives t a b x y v h k i j e n =
    let g = gcd a.modulus b.modulus in
    limited_gives (a.remainder -ℤ b.remainder) v _ n
    (settled_member Overflow t (x -ℤ y) v (a.remainder -ℤ b.remainder) g (difference_leaves t (ends_of t a) (ends_of t b)) e
    (subst (IsMultiple g) (difference_members x y a.remainder b.remainder) (multiple_difference g _ _ (multiple_of g a.modulus _ (gcd_left a.modulus b.modulus) h) (multiple_of g b.modulus _ (gcd_right a.modulus b.modulus) k)))
    inside)
  where
    last : (l g x y p q : ℤ) → l ≡ pos 0 → x ≤ℤ g → l ≤ℤ y → p ≤ℤ x → y ≤ℤ q → l ≤ℤ (p -ℤ q) → (l ≤ℤ (x -ℤ y)) × ((x -ℤ y) ≤ℤ g)
    last l g x y p q a b c d e f = (omega (arith, ints), omega (arith, ints))

    inside : difference_leaves t (ends_of t a) (ends_of t b) ≡ false → is_signed t ≡ false → InRange t (x -ℤ y)
    inside l s =
        let p = ends_hold t a x i h in let q = ends_hold t b y j k in
        let r = last (least_of t) (greatest_of t) x y (ends_of t a).0 (ends_of t b).1 (least_unsigned t s) i.high j.low p.low q.high (from_lt_false _ _ l) in
        record { low = r.0; high = r.1 }

-- ---- products

product_multiple : (m n : ℕ) (x y : ℤ) → IsMultiple m x → IsMultiple n y → IsMultiple (m * n) (x *ℤ y)
product_multiple m n x y h k = (
  h.0 *ℤ k.0,
  ap (λ z. z *ℤ y) h.1 ∙ ap (λ z. (h.0 *ℤ pos m) *ℤ z) k.1
      ∙ times_assoc h.0 (pos m) (k.0 *ℤ pos n)
      ∙ ap (λ z. h.0 *ℤ z) (sym (times_assoc (pos m) k.0 (pos n)) ∙ ap (λ z. z *ℤ pos n) (*ℤ_comm (pos m) k.0) ∙ times_assoc k.0 (pos m) (pos n) ∙ ap (λ z. k.0 *ℤ z) (pos-*ℤ-pos m n))
      ∙ sym (times_assoc h.0 k.0 (pos (m * n))),
)

size_multiple : (z : ℤ) → IsMultiple (unsigned_abs z) z
size_multiple z = multiple_by_size (unsigned_abs z) z (dvd_refl (unsigned_abs z))

-- how far products are apart
product_apart : (x y a b : ℤ) → (((x -ℤ a) *ℤ (y -ℤ b)) +ℤ ((x -ℤ a) *ℤ b)) +ℤ (a *ℤ (y -ℤ b)) ≡ (x *ℤ y) -ℤ (a *ℤ b)
product_apart x y a b =
    let f : (x -ℤ a) *ℤ (y -ℤ b) ≡ (x *ℤ (y -ℤ b)) -ℤ (a *ℤ (y -ℤ b)) = times_difference x a (y -ℤ b) in
    let g : (x -ℤ a) *ℤ b ≡ (x *ℤ b) -ℤ (a *ℤ b) = times_difference x a b in
    let h : x *ℤ (y -ℤ b) ≡ (x *ℤ y) -ℤ (x *ℤ b) = *ℤ_comm x (y -ℤ b) ∙ times_difference y b x ∙ ap (λ z. z -ℤ (b *ℤ x)) (*ℤ_comm y x) ∙ ap (λ z. (x *ℤ y) -ℤ z) (*ℤ_comm b x) in
    last ((x -ℤ a) *ℤ (y -ℤ b)) ((x -ℤ a) *ℤ b) (a *ℤ (y -ℤ b)) (x *ℤ (y -ℤ b)) (x *ℤ b) (a *ℤ b) (x *ℤ y) f g h
  where
    last : (p q r s u w z : ℤ) → p ≡ s -ℤ r → q ≡ u -ℤ w → s ≡ z -ℤ u → (p +ℤ q) +ℤ r ≡ z -ℤ w
    last p q r s u w z f g h = omega (arith, ints)

abbrev three : Class → Class → ℕ
three a b = gcd (gcd (products a b).0 (products a b).1) (products a b).2

exact_product : (a b : Class) (x y : ℤ) → In a x → In b y → IsMultiple (three a b) ((x *ℤ y) -ℤ (a.remainder *ℤ b.remainder))
exact_product a b x y h k =
    let g = three a b in
    let p = products a b in
    let u : gcd p.0 p.1 ∣ p.0 = gcd_left p.0 p.1 in
    let w : gcd p.0 p.1 ∣ p.1 = gcd_right p.0 p.1 in
    subst (IsMultiple g) (product_apart x y a.remainder b.remainder)
    (multiple_sum g _ _
    (multiple_sum g _ _
    (multiple_of g p.0 _ (dvd_trans g (gcd_left (gcd p.0 p.1) p.2) u) (product_multiple a.modulus b.modulus _ _ h k))
    (multiple_of g p.1 _ (dvd_trans g (gcd_left (gcd p.0 p.1) p.2) w) (product_multiple a.modulus (unsigned_abs b.remainder) _ _ h (size_multiple b.remainder))))
    (multiple_of g p.2 _ (gcd_right (gcd p.0 p.1) p.2) (product_multiple (unsigned_abs a.remainder) b.modulus _ _ (size_multiple a.remainder) k)))

product_low : (x y : ℤ) → pos 0 ≤ℤ x → pos 0 ≤ℤ y → pos 0 ≤ℤ (x *ℤ y)
product_low (pos a) (pos b) p q = omega (arith, ints)
product_low (negsuc a) y p q = absurd (omega (arith, ints))
product_low (pos a) (negsuc b) p q = absurd (omega (arith, ints))

product_grows : (x y p q : ℤ) → pos 0 ≤ℤ x → pos 0 ≤ℤ y → x ≤ℤ p → y ≤ℤ q → (x *ℤ y) ≤ℤ (p *ℤ q)
product_grows x (negsuc n) p q a b c d = absurd (omega (arith, ints))
product_grows x (pos n) (negsuc m) q a b c d = absurd (omega (arith, ints))
product_grows x (pos n) (pos m) q a b c d =
    le_trans _ _ _ (product_up x (pos m) n c) (subst (λ z. z ≤ℤ (pos m *ℤ q)) (*ℤ_comm (pos n) (pos m)) (subst (λ z. (pos n *ℤ pos m) ≤ℤ z) (*ℤ_comm q (pos m)) (product_up (pos n) q m d)))

pub size_small : (v : ℤ) → IsOfSomeType v → unsigned_abs v ≤ greatest_modulus
size_small (pos n) h = let p = h.high in omega (arith, ints)
size_small (negsuc n) h = let p = h.low in omega (arith, ints)

pub kept_small : (t : IntType) (m : ℕ) → m ≤ greatest_modulus → kept_modulus t true m ≤ greatest_modulus
kept_small t m h = by_signed t (λ s. subst (λ n. n ≤ greatest_modulus) (sym (kept_signed t true m s)) h) (λ s. subst (λ n. n ≤ greatest_modulus) (sym (kept_unsigned t true m s)) (turn_small t m))

less_zero : (z : ℤ) → z ≡ z -ℤ pos 0
less_zero z = omega (arith, ints)

multiples_give : (u : Undef) (t : IntType) (c e v : ℤ) → IsOfSomeType c → IsMultiple (unsigned_abs c) e → settled u t e ≡ Ok v → IsOfSomeType v → Gives (multiples_of t c) v
multiples_give u t c e v i h k n =
    gives (pos 0) v (kept_modulus t true (unsigned_abs c)) (kept_small t (unsigned_abs c) (size_small c i)) n
    (settled_member u t e v (pos 0) (unsigned_abs c) true k (subst (IsMultiple (unsigned_abs c)) (less_zero e) h) (λ d. absurd cc))

past_gives : (u : Undef) (t : IntType) (a b : Class) (x y v : ℤ) → Is a → Is b → In a x → In b y → settled u t (x *ℤ y) ≡ Ok v → IsOfSomeType v → Gives (past_limits t a b) v
past_gives u t a b x y v p q h k e n = at (nat_eq a.modulus 0) (nat_eq b.modulus 0) refl refl
  where
    at : (s r : Bool) → nat_eq a.modulus 0 ≡ s → nat_eq b.modulus 0 ≡ r → Gives (cond s (multiples_of t a.remainder) (cond r (multiples_of t b.remainder) everything)) v
    at true r f g =
        let i = class_one a.remainder (subst (λ m. is_class a.remainder m ≡ true) (eq_zero a.modulus f) p) in
        multiples_give u t a.remainder (x *ℤ y) v i
        (subst (λ z. IsMultiple (unsigned_abs a.remainder) (z *ℤ y)) (sym (one_member a x (eq_zero a.modulus f) h)) (multiple_product (unsigned_abs a.remainder) a.remainder y (size_multiple a.remainder))) e n
    at false true f g =
        let i = class_one b.remainder (subst (λ m. is_class b.remainder m ≡ true) (eq_zero b.modulus g) q) in
        multiples_give u t b.remainder (x *ℤ y) v i
        (subst (IsMultiple (unsigned_abs b.remainder)) (*ℤ_comm y x) (subst (λ z. IsMultiple (unsigned_abs b.remainder) (z *ℤ x)) (sym (one_member b y (eq_zero b.modulus g) k)) (multiple_product (unsigned_abs b.remainder) b.remainder x (size_multiple b.remainder)))) e n
    at false false f g = gives_all v

pub product_gives : (u : Undef) (t : IntType) (a b : Class) (x y v : ℤ) → Is a → Is b → In a x → In b y → InRange t x → LiesIn (ends_of t b) y → (is_signed t ≡ false → pos 0 ≤ℤ y) → settled u t (x *ℤ y) ≡ Ok v → IsOfSomeType v → Gives (product_of t a b) v
product_gives u t a b x y v p q h k i j z e n = at (are_small (products a b))
  where
    lower : (l x : ℤ) → l ≡ pos 0 → l ≤ℤ x → pos 0 ≤ℤ x
    lower l x d h = omega (arith, ints)

    from_zero : (l x : ℤ) → l ≡ pos 0 → pos 0 ≤ℤ x → l ≤ℤ x
    from_zero l x d h = omega (arith, ints)

    inside : product_leaves t (ends_of t a) (ends_of t b) ≡ false → is_signed t ≡ false → InRange t (x *ℤ y)
    inside l s =
        let o = lower (least_of t) x (least_unsigned t s) i.low in
        let w = ends_hold t a x i h in
        record {
          low = from_zero (least_of t) (x *ℤ y) (least_unsigned t s) (product_low x y o (z s));
          high = le_trans _ _ _ (product_grows x y (ends_of t a).1 (ends_of t b).1 o (z s) w.high j.high) (from_lt_false _ _ l);
        }

    at_modulus : (t' : Bool) → nat_le (product_modulus t a b) greatest_modulus ≡ t' → Gives (cond t' (reduced (a.remainder *ℤ b.remainder) (product_modulus t a b)) (past_limits t a b)) v
    at_modulus true f =
        gives (a.remainder *ℤ b.remainder) v (product_modulus t a b) (leb-true _ _ f) n
        (settled_member u t (x *ℤ y) v (a.remainder *ℤ b.remainder) (three a b) (product_leaves t (ends_of t a) (ends_of t b)) e (exact_product a b x y h k) inside)
    at_modulus false f = past_gives u t a b x y v p q h k e n

    at : (s : Bool) → Gives (cond s (product_at t a b (product_modulus t a b)) (past_limits t a b)) v
    at true = at_modulus (nat_le (product_modulus t a b) greatest_modulus) refl
    at false = past_gives u t a b x y v p q h k e n

-- ---- shifts

power_small : (t : IntType) (y : ℤ) → is_amount t y ≡ true → IsOfSomeType (pos (2 ^ unsigned_abs y))
power_small t y h =
    let p = and_parts (int_le (pos 0) y) (int_lt y (pos (bits_of t))) h in
    at y (le_fact _ _ p.0) (from_lt_true _ _ p.1)
  where
    at : (y : ℤ) → pos 0 ≤ℤ y → y <ℤ pos (bits_of t) → IsOfSomeType (pos (2 ^ unsigned_abs y))
    at (negsuc n) p q = absurd (omega (arith, ints))
    at (pos n) p q =
        let w = bits_most t in
        let l : 2 ^ n ≤ 2 ^ 63 = pow_mono (below n (bits_of t) q w) in
        record { low = omega (arith, ints); high = omega (arith, ints) }
      where
        below : (n w : ℕ) → pos n <ℤ pos w → w ≤ 64 → n ≤ 63
        below n w h k = omega (arith, ints)

        bits_most : (t : IntType) → bits_of t ≤ 64
        bits_most I8 = omega arith
        bits_most U8 = omega arith
        bits_most I16 = omega arith
        bits_most U16 = omega arith
        bits_most I32 = omega arith
        bits_most U32 = omega arith
        bits_most I64 = omega arith
        bits_most U64 = omega arith

pub shifted_gives : (t : IntType) (a b : Class) (x y v : ℤ) → Is a → In a x → In b y → InRange t x → arith_of Shl t x y ≡ Ok v → IsOfSomeType v → Gives (shifted_of t a b) v
shifted_gives t a b x y v p h k i e n = at (is_one b && is_amount t b.remainder) refl
  where
    not_err_here : {P : Type 0} → ◌≡◌ {A = Result ℤ Undef} (Err Shift) (Ok v) → P
    not_err_here e = not_err Shift v e

    -- the result is that of a product
    product : (s : Bool) → (is_amount t y && int_le (pos 0) x) ≡ s → cond s (settled Shift t (x *ℤ pos (2 ^ unsigned_abs y))) (Err Shift) ≡ Ok v → settled Shift t (x *ℤ pos (2 ^ unsigned_abs y)) ≡ Ok v
    product true f g = g
    product false f g = not_err_here g

    at : (s : Bool) → (is_one b && is_amount t b.remainder) ≡ s → Gives (cond s (product_of t a (one (pos (2 ^ unsigned_abs b.remainder)))) everything) v
    at false f = gives_all v
    at true f =
        let q = and_parts (nat_eq b.modulus 0) (is_amount t b.remainder) f in
        let c = pos (2 ^ unsigned_abs b.remainder) in
        let same : y ≡ b.remainder = one_member b y (eq_zero b.modulus q.0) k in
        let w = power_small t b.remainder q.1 in
        product_gives Shift t a (one c) x c v p (one_class c w) h (itself_in c 0) i (record { low = le_self c; high = le_self c }) (λ s. omega (arith, ints))
        (subst (λ z. settled Shift t (x *ℤ pos (2 ^ unsigned_abs z)) ≡ Ok v) same (product (is_amount t y && int_le (pos 0) x) refl e)) n

-- ---- each operator

pub results_give : (o : BinOp) (t : IntType) (a b : Class) (x y v : ℤ) → Is a → Is b → In a x → In b y → InRange t x → IsRightOperand o t y → arith_of o t x y ≡ Ok v → Gives (results_of o t a b) v
results_give Add t a b x y v p q h k i j e = sum_gives t a b x y v h k i j e (in_range_some_type t v (arith_in_range Add t x y v i e))
results_give Sub t a b x y v p q h k i j e = difference_gives t a b x y v h k i j e (in_range_some_type t v (arith_in_range Sub t x y v i e))
results_give Mul t a b x y v p q h k i j e = product_gives Overflow t a b x y v p q h k i (ends_hold t b y j k) (λ s. lower (least_of t) y (least_unsigned t s) j.low) e (in_range_some_type t v (arith_in_range Mul t x y v i e))
  where
    lower : (l x : ℤ) → l ≡ pos 0 → l ≤ℤ x → pos 0 ≤ℤ x
    lower l x d h = omega (arith, ints)
results_give Shl t a b x y v p q h k i j e = shifted_gives t a b x y v p h k i e (in_range_some_type t v (arith_in_range Shl t x y v i e))
results_give Div t a b x y v p q h k i j e = gives_all v
results_give Rem t a b x y v p q h k i j e = gives_all v
results_give And t a b x y v p q h k i j e = gives_all v
results_give Or t a b x y v p q h k i j e = gives_all v
results_give Xor t a b x y v p q h k i j e = gives_all v
results_give Shr t a b x y v p q h k i j e = gives_all v

pub between_give : (o : BinOp) (t : IntType) (a b : Class) (x y v : ℤ) → Is a → Is b → In a x → In b y → InRange t x → IsRightOperand o t y → arith_of o t x y ≡ Ok v → IsSomeAnd (results_between o t a b) (λ c. Gives c v)
between_give o t a b x y v p q h k i j e = at (is_one a && is_one b) refl
  where
    of_single : (r : Result ℤ Undef) → r ≡ Ok v → IsSomeAnd (single_result r) (λ c. Gives c v)
    of_single r f = subst (λ r. IsSomeAnd (single_result r) (λ c. Gives c v)) (sym f) (one_class v (in_range_some_type t v (arith_in_range o t x y v i e)), itself_in v 0)

    at : (s : Bool) → (is_one a && is_one b) ≡ s → IsSomeAnd (cond s (single_result (arith_of o t a.remainder b.remainder)) (Some (results_of o t a b))) (λ c. Gives c v)
    at true f =
        let r = and_parts (nat_eq a.modulus 0) (nat_eq b.modulus 0) f in
        of_single (arith_of o t a.remainder b.remainder)
        (subst (λ z. arith_of o t a.remainder z ≡ Ok v) (one_member b y (eq_zero b.modulus r.1) k) (subst (λ z. arith_of o t z y ≡ Ok v) (one_member a x (eq_zero a.modulus r.0) h) e))
    at false f = results_give o t a b x y v p q h k i j e
