-- A bit of a result is known exactly where all results agree in it.
use Rattle.std.specs.Prelude.{◌≡◌, ℕ, ◌+◌, ◌-◌, ◌*◌, ◌^◌, ◌<◌, ◌≤◌, ℤ, pos, negsuc, ◌≤ℤ◌, ◌*ℤ◌, ◌⊎◌, Bool, true}
use Rattle.ep_int.proofs.Arithmetic.{le_test}
use Rattle.ep_int.proofs.Basics.{true_and_false}
use Rattle.std.specs.Prelude.{false, cond, ◌&&◌, ◌||◌, not, Option, Some, None, Result, Ok, Err, IfSome, IsSomeAnd}
use Rattle.std.specs.Prelude.{int_le, unsigned_abs, bit_and, bit_or, bit_xor, refl}
use Rattle.std.specs.Option.{unwrap_or, option_and_then}
use Rattle.std.specs.Int.{int_shr}
use Rattle.std.proofs.Common.{arith, ap, sym, ◌∙◌, subst, inl, inr}
use Rattle.std.proofs.Math.IntN.{pos-*ℤ-pos}
use Rattle.std.proofs.lemmas.Int.{ints}
use Rattle.std.proofs.lemmas.Bool.{and_from, and_parts}
use Rattle.ep_int.specs.declared.types.IntType.{IntType}
use Rattle.ep_int.specs.declared.types.BinOp.{BinOp}
use Rattle.ep_int.specs.declared.types.BinOp.TheVariants.{Add, Sub, Mul, Div, Rem, And, Or, Xor, Shl, Shr}
use Rattle.ep_int.specs.declared.types.Undef.{Undef}
use Rattle.ep_int.specs.declared.types.Undef.TheVariants.{Shift}
use Rattle.ep_int.specs.Types.{bits_of, is_signed, InRange, representation, represented, wrapped, least_of}
use Rattle.ep_int.specs.Arith.{arith_of, settled, is_in_range, is_amount, IsOfSomeType, IsRightOperand}
use Rattle.ep_int.proofs.Wrapping.{wrapped_in_range}
use Rattle.ep_int.proofs.Arithmetic.{arith_in_range, amount_below, right_operand, in_range_some_type}
use Rattle.ep_range_laws.proofs.Types as types
use Rattle.ep_bit_laws.specs.Bits.{bit, bit_of}
use Rattle.ep_bit_laws.specs.Patterns.{Pattern, known_bit, Has, closed, in_type, low_part}
use Rattle.ep_bit_laws.specs.Results.{both_of, either_of, one_of, right_by, left_by}
use Rattle.ep_bit_laws.proofs.Bits.{differ}
use Rattle.ep_bit_laws.proofs.Numbers.{bit_of_shifted, bit_above_all, bit_wrapped, width_small, number_of_bits}
use Rattle.ep_bit_laws.proofs.Patterns.{closed_zeros, closed_ones}
use Rattle.ep_bit_laws.proofs.Types.{from_in_type, low_part_has, has_low}
use Rattle.ep_bit_laws.proofs.Results.{IsBitwise, and_bitwise, or_bitwise, xor_bitwise, bit_of_result, product_high}
use Rattle.ep_bit_laws.proofs.Exact.{bit_or_else, known_holds, exact_known, closed_open, IsOfType, in_type_of}
use Rattle.ep_bit_laws.proofs.Exact.{closed_same, pick, pick_any, least_has, least_in_range, not_known}
use Rattle.ep_bit_laws.proofs.Open.{Chosen, and_chosen, or_chosen, xor_chosen, right_open, low_open, left_open}
use Rattle.ep_bit_domain.specs.KnownBits as values
use Rattle.ep_bit_domain.specs.KnownBits.{KnownBits, pattern_of, formed, holds_of, top_of, single_of, range_of}
use Rattle.ep_bit_domain.specs.KnownBits.{is_one, number_of, left_operand, amount_of, shifted_by, shifted_left}
use Rattle.ep_bit_domain.specs.KnownBits.{shifted_right, results_of, single_result, results_between, value_of}
use Rattle.ep_bit_domain.specs.KnownBits.{conversion_of, conversion_of_more}
use Rattle.ep_bit_domain.specs.Exact.{bit_in, KnowsExactly, IsExactly, IsResult, IsConverted, IsExactOp}
use Rattle.ep_bit_domain.proofs.Formed.{is_pattern_of, holds, held, formed_has, formed_is}
use Rattle.ep_bit_domain.proofs.Simple.{only_member, one_range, single_has, single_pattern, range_single}
use Rattle.ep_bit_domain.proofs.Simple.{number_of_some_type, conversion_has}
use Rattle.ep_bit_domain.proofs.Outcomes.{HaveIn, HasIn, between_hold, left_there}

same_bit : (b c : Bool) → ◌≡◌ {A = Option Bool} (Some b) (Some c) → b ≡ c
same_bit b c e = cc

other_bit : (b : Bool) → not b ≡ b → ⊥
other_bit true e = absurd cc
other_bit false e = absurd cc

-- ---- from numbers that differ in each unknown bit

-- numbers with both values in each bit that is not known
abbrev pub Varies : (ℤ → Type 0) → (ℕ → Option Bool) → Type 0
Varies P known = (k : ℕ) → k < 65 → known k ≡ None → (b : Bool) → (v : ℤ) × P v × (bit_of v k ≡ b)

pub exactly_from : (P : ℤ → Type 0) (c : KnownBits) → ((v : ℤ) → P v → Has (pattern_of c) v) → ((v : ℤ) × P v)
    → Varies P (bit_in c) → KnowsExactly P c
exactly_from P c each some varies k b l = (
  λ e v h. known_holds (pattern_of c) v k b (each v h) e,
  λ f. at
      (bit_in c k) refl f,
)
  where
    at : (o : Option Bool) → bit_in c k ≡ o → ((v : ℤ) → P v → bit_of v k ≡ b) → o ≡ Some b
    at (Some d) e f = ap Some (sym (known_holds (pattern_of c) some.0 k d (each some.0 some.1) e) ∙ f some.0 some.1)
    at None e f = let w = varies k l e (not b) in absurd (other_bit b (sym w.2 ∙ f w.0 w.1))

pub exactly_formed : (P : ℤ → Type 0) (p : Pattern) → ((v : ℤ) → P v → HaveIn (formed p) v) → ((v : ℤ) × P v)
    → Varies P (known_bit p) → IsExactly P (formed p)
exactly_formed P p each some varies = at (formed p) (formed_is p) each
  where
    at : (o : Option KnownBits) → IfSome o (λ c. pattern_of c ≡ closed p) → ((v : ℤ) → P v → HaveIn o v)
        → IsExactly P o
    at None e f = absurd (f some.0 some.1)
    at (Some c) e f = exactly_from P c f some (λ k l g b. varies k l
        (closed_open p k (ap (λ q. known_bit q k) (sym e) ∙ g)) b)

-- of one number
pub exactly_single : (P : ℤ → Type 0) (v : ℤ) → IsOfSomeType v → P v → ((w : ℤ) → P w → w ≡ v) → KnowsExactly P
    (single_of v)
exactly_single P v i h only =
    exactly_from P (single_of v) (λ w k. subst (Has (pattern_of (single_of v))) (sym (only w k)) (single_has v i))
    (v, h)
    (λ k l e b. absurd (exact_known v k l (sym (ap (λ p. known_bit p k) (single_pattern v i)) ∙ e)))

-- ---- conversion to unsigned types

module _ (t : IntType) (c : KnownBits) (s : is_signed t ≡ false) where
  converted_has : (v : ℤ) → IsConverted t c v → Has (pattern_of (conversion_of c t)) v
  converted_has v h = subst (Has (pattern_of (conversion_of c t))) (sym h.converted)
      (conversion_has c t h.number (holds c h.number h.held))

  some_converted : (v : ℤ) × IsConverted t c v
  some_converted = (
    wrapped t (number_of_bits c.ones),
    record {
      number = number_of_bits c.ones;
      held = held c _
          (least_has (pattern_of c) (is_pattern_of c));
      converted = refl;
    },
  )

  one_converted : is_one c ≡ true → KnowsExactly (IsConverted t c) (single_of (wrapped t (number_of c)))
  one_converted e =
      exactly_single (IsConverted t c) (wrapped t (number_of c))
      (in_range_some_type t _ (wrapped_in_range t (number_of c)))
      (record { number = number_of c; held = range_single c (number_of c) (one_range c e); converted = refl })
      (λ w h. h.converted ∙ ap (wrapped t) (only_member c (number_of c) h.number (one_range c e)
      (holds c h.number h.held)))

  varies_low : Varies (IsConverted t c) (known_bit (low_part t (pattern_of c)))
  varies_low k l e b =
      let o = low_open t (pattern_of c) k s l e in
      let w = width_small t in
      let u = o.0 in
      let x = pick_any (pattern_of c) (is_pattern_of c) k b (omega arith) in (
        wrapped t x.0,
        record { number = x.0; held = held c x.0 x.1; converted = refl },
        bit_wrapped t x.0 k u ∙ x.2
            ∙ ap (λ o. unwrap_or o b) (not_known (pattern_of c) k o.1 o.2),
      )

  more_converted : ((v : ℤ) → IsConverted t c v → Has
      (pattern_of (unwrap_or (formed (low_part t (pattern_of c))) (top_of t))) v) → KnowsExactly (IsConverted t c)
      (unwrap_or (formed (low_part t (pattern_of c))) (top_of t))
  unfolding some_converted
  more_converted each = at (formed (low_part t (pattern_of c))) (formed_is (low_part t (pattern_of c))) each some_there
    where
      some_there : IsSomeAnd (formed (low_part t (pattern_of c))) (HasIn some_converted.0)
      some_there = formed_has (low_part t (pattern_of c)) some_converted.0
          (low_part_has t (pattern_of c) (number_of_bits c.ones) s
          (has_low _ (pattern_of c) (number_of_bits c.ones) (least_has (pattern_of c) (is_pattern_of c))))

      at : (o : Option KnownBits) → IfSome o (λ d. pattern_of d ≡ closed (low_part t (pattern_of c))) →
          ((v : ℤ) → IsConverted t c v → Has (pattern_of (unwrap_or o (top_of t))) v) → IsSomeAnd o
          (HasIn some_converted.0) → KnowsExactly (IsConverted t c) (unwrap_or o (top_of t))
      at None e f h = absurd h
      at (Some d) e f h = exactly_from (IsConverted t c) d f some_converted
          (λ k l g b. varies_low k l (closed_open (low_part t (pattern_of c)) k
          (ap (λ q. known_bit q k) (sym e) ∙ g)) b)

  pub conversion_exact : KnowsExactly (IsConverted t c) (conversion_of c t)
  conversion_exact = at (is_one c) refl converted_has
    where
      by_sign : (b : Bool) → b ≡ false → ((v : ℤ) → IsConverted t c v → Has
          (pattern_of (cond b (top_of t) (unwrap_or (formed (low_part t (pattern_of c))) (top_of t)))) v)
          → KnowsExactly (IsConverted t c) (cond b (top_of t)
          (unwrap_or (formed (low_part t (pattern_of c))) (top_of t)))
      by_sign true e f = absurd cc
      by_sign false e f = more_converted f

      at : (b : Bool) → is_one c ≡ b → ((v : ℤ) → IsConverted t c v → Has
          (pattern_of (cond b (single_of (wrapped t (number_of c))) (conversion_of_more c t))) v) → KnowsExactly
          (IsConverted t c) (cond b (single_of (wrapped t (number_of c))) (conversion_of_more c t))
      at true e f = one_converted e
      at false e f = by_sign (is_signed t) s f

-- ---- operands

-- what is known of the numbers of an operand that arithmetic takes
pub record Operand (t : IntType) (a c : KnownBits) : Type 0 where
  pub inside : (z : ℤ) → Has (pattern_of c) z → Has (pattern_of a) z
  pub each : (z : ℤ) → Has (pattern_of a) z → InRange t z → Has (pattern_of c) z
  pub of_type : IsOfType t (pattern_of c)

operand_of : (t : IntType) (a : KnownBits) → IfSome (left_operand t a) (Operand t a)
operand_of t a = at (left_operand t a) (formed_is (in_type t (pattern_of a))) (λ z h r. left_there t a z h r)
  where
    apart : (c : KnownBits) → pattern_of c ≡ closed (in_type t (pattern_of a)) → (k : ℕ) → bit
        (in_type t (pattern_of a)).zeros k ≡ true → bit (in_type t (pattern_of a)).ones k ≡ false
    apart c e k f = back (bit (in_type t (pattern_of a)).ones k) refl
      where
        back : (b : Bool) → bit (in_type t (pattern_of a)).ones k ≡ b → b ≡ false
        back false g = refl
        back true g =
            absurd (true_and_false (bit c.ones k) (ap (λ (p : Pattern). bit p.ones k) e ∙ closed_ones
            (in_type t (pattern_of a)) k g)
            ((is_pattern_of c).apart k (ap (λ (p : Pattern). bit p.zeros k) e ∙ closed_zeros
            (in_type t (pattern_of a)) k f)))

    at : (o : Option KnownBits) → IfSome o (λ c. pattern_of c ≡ closed (in_type t (pattern_of a))) →
        ((z : ℤ) → Has (pattern_of a) z → InRange t z → HaveIn o z) → IfSome o (Operand t a)
    at None e f = tt
    at (Some c) e f =
        let q = apart c e in
        let u = in_type_of t (pattern_of a) q in
        let same : pattern_of c ≡ in_type t (pattern_of a) = e ∙ closed_same t (in_type t (pattern_of a)) u q in
        record {
          inside = λ z h. from_in_type t (pattern_of a) z (subst (λ p. Has p z) same h);
          each = f;
          of_type = subst (IsOfType t) (sym same) u;
        }

-- the number of an operand that is one number is of the type
one_in_range : (t : IntType) (a c : KnownBits) → Operand t a c → is_one c ≡ true → InRange t (number_of c)
one_in_range t a c o e =
    subst (InRange t) (only_member c (number_of c) (number_of_bits c.ones) (one_range c e)
    (least_has (pattern_of c) (is_pattern_of c)))
    (least_in_range t (pattern_of c) (is_pattern_of c) o.of_type)

-- an operand that is one number is one that arithmetic takes
pub left_number : (t : IntType) (a c : KnownBits) → left_operand t a ≡ Some c → is_one c ≡ true → InRange t
    (number_of c)
left_number t a c e f = one_in_range t a c (subst (λ o. IfSome o (Operand t a)) e (operand_of t a)) f

pub right_number : (o : BinOp) (t : IntType) (b c : KnownBits) → values.right_operand o t b ≡ Some c → is_one c ≡ true
    → IsRightOperand o t (number_of c)
right_number Add t b c e f = left_number t b c e f
right_number Sub t b c e f = left_number t b c e f
right_number Mul t b c e f = left_number t b c e f
right_number Div t b c e f = left_number t b c e f
right_number Rem t b c e f = left_number t b c e f
right_number And t b c e f = left_number t b c e f
right_number Or t b c e f = left_number t b c e f
right_number Xor t b c e f = left_number t b c e f
right_number Shl t b c e f = number_of_some_type c
right_number Shr t b c e f = number_of_some_type c

-- ---- results of operands

-- what a result has of the operands
pub record Given (o : BinOp) (t : IntType) (a b : KnownBits) (c d : KnownBits) : Type 0 where
  pub left : Operand t a c
  pub right_inside : (z : ℤ) → Has (pattern_of d) z → Has (pattern_of b) z
  pub right_each : (z : ℤ) → Has (pattern_of b) z → IsRightOperand o t z → Has (pattern_of d) z
  pub right_one : is_one d ≡ true → IsRightOperand o t (number_of d)

module _ (o : BinOp) (t : IntType) (a b c d : KnownBits) (g : Given o t a b c d) where
  results_there : (v : ℤ) → IsResult o t a b v → HaveIn (results_between o t c d) v
  results_there v h =
      between_hold o t c d h.x h.y v (g.left.each h.x (holds a h.x h.left) h.taken.left)
      (g.right_each h.y (holds b h.y h.right) h.taken.right) h.taken h.result

  -- a result of members
  result_of : (x y v : ℤ) → Has (pattern_of c) x → Has (pattern_of d) y → InRange t x → IsRightOperand o t y
      → arith_of o t x y ≡ Ok v → IsResult o t a b v
  result_of x y v h k r q e = record {
    x = x;
    y = y;
    left = held a x (g.left.inside x h);
    right = held b y
        (g.right_inside y k);
    taken = record { left = r; right = q };
    result = e;
  }

  -- both are one number
  exact_single : is_one c ≡ true → is_one d ≡ true → IsExactly (IsResult o t a b)
      (single_result (arith_of o t (number_of c) (number_of d)))
  exact_single e f = at (arith_of o t (number_of c) (number_of d)) refl
    where
      same : (v : ℤ) → IsResult o t a b v → arith_of o t (number_of c) (number_of d) ≡ Ok v
      same v h =
          let l = only_member c (number_of c) h.x (one_range c e)
          (g.left.each h.x (holds a h.x h.left) h.taken.left) in
          let m = only_member d (number_of d) h.y (one_range d f)
          (g.right_each h.y (holds b h.y h.right) h.taken.right) in
          sym (ap (λ z. arith_of o t z h.y) l ∙ ap (arith_of o t (number_of c)) m) ∙ h.result

      ok_same : (v w : ℤ) → ◌≡◌ {A = Result ℤ Undef} (Ok v) (Ok w) → v ≡ w
      ok_same v w i = cc

      err_ok : (u : Undef) (w : ℤ) → ◌≡◌ {A = Result ℤ Undef} (Err u) (Ok w) → ⊥
      err_ok u w i = absurd cc

      at : (r : Result ℤ Undef) → arith_of o t (number_of c) (number_of d) ≡ r → IsExactly (IsResult o t a b)
          (single_result r)
      at (Err u) i = λ v h. err_ok u v (sym i ∙ same v h)
      at (Ok v) i =
          let r = one_in_range t a c g.left e in
          exactly_single (IsResult o t a b) v (in_range_some_type t v
          (arith_in_range o t (number_of c) (number_of d) v r i))
          (result_of (number_of c) (number_of d) v (holds c _ (range_single c (number_of c) (one_range c e)))
          (holds d _ (range_single d (number_of d) (one_range d f))) r (g.right_one f) i)
          (λ w h. ok_same w v (sym (same w h) ∙ i))

-- ---- bit by bit

module _ (o : BinOp) (t : IntType) (a b c d : KnownBits) (g : Given o t a b c d) (u : IsOfType t (pattern_of d))
    (op : ℕ → ℕ → ℕ) (f : Bool → Bool → Bool) (w : IsBitwise op f)
    (computes : (x y : ℤ) → arith_of o t x y ≡ Ok (represented t (op (representation t x) (representation t y))))
    (p : Pattern) (chosen : (k : ℕ) (b : Bool) → known_bit p k ≡ None → Chosen f (pattern_of c)
    (pattern_of d) k b) where
  with_bits : (k : ℕ) (l m : Bool) → k < 65 → (v : ℤ) × IsResult o t a b v ×
      (bit_of v k ≡ f (bit_or_else (pattern_of c) k l) (bit_or_else (pattern_of d) k m))
  with_bits k l m h =
      let x = pick t (pattern_of c) (is_pattern_of c) g.left.of_type k l h in
      let y = pick t (pattern_of d) (is_pattern_of d) u k m h in (
        represented t (op (representation t x.0) (representation t y.0)),
        result_of o t a b c d g x.0 y.0 _ x.2 y.2 x.1 (right_operand o t y.0 y.1) (computes x.0 y.0),
        bit_of_result op f w t x.0 y.0 x.1 y.1 k ∙ ap (λ z. f z (bit_of y.0 k)) x.3 ∙ ap
            (f (bit_or_else (pattern_of c) k l)) y.3,
      )

  pub exact_bitwise : ((v : ℤ) → IsResult o t a b v → HaveIn (formed p) v) → IsExactly (IsResult o t a b) (formed p)
  exact_bitwise each =
      exactly_formed (IsResult o t a b) p each (let v = with_bits 0 false false (omega arith) in (v.0, v.1))
      (λ k l e z. let s = chosen k z e in let v = with_bits k s.left s.right l in (v.0, v.1, v.2 ∙ s.gives))

-- ---- shifts by one amount

module _ (o : BinOp) (t : IntType) (a b c : KnownBits) (g : Given o t a b c b) (one : is_one b ≡ true)
    (shift : ℕ → Option KnownBits) where
  amount_held : Has (pattern_of b) (number_of b)
  amount_held = holds b (number_of b) (range_single b (number_of b) (one_range b one))

  exact_shift : ((y : ℤ) → is_amount t y ≡ false → (x v : ℤ) → arith_of o t x y ≡ Ok v → ⊥) →
      (is_amount t (number_of b) ≡ true → IsExactly (IsResult o t a b) (shift (unsigned_abs (number_of b))))
      → IsExactly (IsResult o t a b) (shifted_by t b shift)
  exact_shift none some = at (is_one b) one
    where
      by : (e : Bool) → is_amount t (number_of b) ≡ e → IsExactly (IsResult o t a b)
          (option_and_then shift (cond e (Some (unsigned_abs (number_of b))) None))
      by true e = some e
      by false e = λ v h. none (number_of b) e h.x v
          (sym (ap (arith_of o t h.x) (only_member b (number_of b) h.y (one_range b one) (holds b h.y h.right)))
          ∙ h.result)

      at : (e : Bool) → e ≡ true → IsExactly (IsResult o t a b)
          (cond e (option_and_then shift (amount_of t (number_of b))) (Some (top_of t)))
      at true e = by (is_amount t (number_of b)) refl
      at false e = absurd cc

no_right : (t : IntType) (y : ℤ) → is_amount t y ≡ false → (x v : ℤ) → arith_of Shr t x y ≡ Ok v → ⊥
no_right t y e x v f = at (is_amount t y) e f
  where
    at : (b : Bool) → b ≡ false → ◌≡◌ {A = Result ℤ Undef} (cond b (Ok (int_shr x (unsigned_abs y))) (Err Shift))
        (Ok v) → ⊥
    at true g h = absurd cc
    at false g h = absurd cc

no_left : (t : IntType) (y : ℤ) → is_amount t y ≡ false → (x v : ℤ) → arith_of Shl t x y ≡ Ok v → ⊥
no_left t y e x v f = at (is_amount t y) e f
  where
    at : (b : Bool) → b ≡ false → ◌≡◌ {A = Result ℤ Undef}
        (cond (b && int_le (pos 0) x) (settled Shift t (x *ℤ pos (2 ^ unsigned_abs y))) (Err Shift)) (Ok v) → ⊥
    at true g h = absurd cc
    at false g h = absurd cc

right_result : (t : IntType) (x y : ℤ) → is_amount t y ≡ true → arith_of Shr t x y ≡ Ok (int_shr x (unsigned_abs y))
right_result t x y e = ap (λ b. cond b (Ok (int_shr x (unsigned_abs y))) (Err Shift)) e

-- a number of an unsigned type is shifted as a natural number
left_result : (t : IntType) (n : ℕ) (y : ℤ) → is_signed t ≡ false → is_amount t y ≡ true → arith_of Shl t
    (pos n) y ≡ Ok (wrapped t (pos (n * 2 ^ unsigned_abs y)))
left_result t n y s e =
    ap (λ b. cond b (settled Shift t (pos n *ℤ pos (2 ^ unsigned_abs y))) (Err Shift))
    (and_from _ _ e (le_test (pos 0) (pos n) (omega (arith, ints))))
    ∙ ap (λ b. cond b (cond (is_in_range t (pos n *ℤ pos (2 ^ unsigned_abs y)))
    (Ok (pos n *ℤ pos (2 ^ unsigned_abs y))) (Err Shift)) (Ok (wrapped t (pos n *ℤ pos (2 ^ unsigned_abs y))))) s
    ∙ ap (λ z. Ok (wrapped t z)) (pos-*ℤ-pos n (2 ^ unsigned_abs y))

-- numbers of unsigned types
natural_of : (t : IntType) (x : ℤ) → is_signed t ≡ false → InRange t x → (n : ℕ) × (x ≡ pos n)
natural_of t (pos n) s r = (n, refl)
natural_of t (negsuc n) s r = absurd (below (least_of t) (types.least_unsigned t s) r.low)
  where
    below : (l : ℤ) → l ≡ pos 0 → l ≤ℤ negsuc n → ⊥
    below l e h = omega (arith, ints)

module _ (t : IntType) (a b c : KnownBits) (one : is_one b ≡ true) (e : is_amount t (number_of b) ≡ true) where
  amount : ℕ
  amount = unsigned_abs (number_of b)

  small : unsigned_abs (number_of b) < 64
  small = amount_below t (number_of b) e

  exact_right : Given Shr t a b c b → ((v : ℤ) → IsResult Shr t a b v → HaveIn
      (formed (right_by (unsigned_abs (number_of b)) (pattern_of c))) v) → IsExactly (IsResult Shr t a b)
      (formed (right_by (unsigned_abs (number_of b)) (pattern_of c)))
  exact_right g each =
      exactly_formed (IsResult Shr t a b) (right_by (unsigned_abs (number_of b)) (pattern_of c)) each
      (let v = with_bit 0 false (omega arith) in (v.0, v.1))
      (λ k l f z. by k z (right_open (unsigned_abs (number_of b)) (pattern_of c) k l f))
    where
      result : (x : ℤ) → InRange t x → Has (pattern_of c) x → IsResult Shr t a b
          (int_shr x (unsigned_abs (number_of b)))
      result x r h = result_of Shr t a b c b g x (number_of b) _ h (amount_held Shr t a b c g one (λ n. None)) r
          (number_of_some_type b) (right_result t x (number_of b) e)

      with_bit : (j : ℕ) (z : Bool) → j < 65 → (v : ℤ) × IsResult Shr t a b v ×
          ((x : ℤ) × (v ≡ int_shr x (unsigned_abs (number_of b))) × IsOfSomeType x ×
          (bit_of x j ≡ bit_or_else (pattern_of c) j z))
      with_bit j z l = let x = pick t (pattern_of c) (is_pattern_of c) g.left.of_type j z l in
          (int_shr x.0 (unsigned_abs (number_of b)), result x.0 x.1 x.2, (x.0, refl, x.2.number, x.3))

      by : (k : ℕ) (z : Bool) → ((unsigned_abs (number_of b) + k < 65) ×
          (known_bit (pattern_of c) (unsigned_abs (number_of b) + k) ≡ None)) ⊎
          ((65 ≤ unsigned_abs (number_of b) + k) × (known_bit (pattern_of c) 64 ≡ None)) → (v : ℤ)
          × IsResult Shr t a b v × (bit_of v k ≡ z)
      by k z (inl h) =
          let v = with_bit (unsigned_abs (number_of b) + k) z h.0 in (
            v.0,
            v.1,
            ap (λ x. bit_of x k) v.2.1 ∙ bit_of_shifted v.2.0 (unsigned_abs (number_of b)) k ∙ v.2.3 ∙ ap
                (λ o. unwrap_or o z) h.1,
          )
      by k z (inr h) =
          let v = with_bit 64 z (omega arith) in
          let m = h.0 in (
            v.0,
            v.1,
            ap (λ x. bit_of x k) v.2.1 ∙ bit_of_shifted v.2.0 (unsigned_abs (number_of b)) k
                ∙ bit_above_all v.2.0 (unsigned_abs (number_of b) + k) v.2.2 (omega arith) ∙ v.2.3 ∙ ap
                (λ o. unwrap_or o z) h.1,
          )

  exact_left : is_signed t ≡ false → Given Shl t a b c b →
      ((v : ℤ) → IsResult Shl t a b v → HaveIn (formed (left_by t (unsigned_abs (number_of b)) (pattern_of c))) v)
      → IsExactly (IsResult Shl t a b) (formed (left_by t (unsigned_abs (number_of b)) (pattern_of c)))
  exact_left s g each =
      exactly_formed (IsResult Shl t a b) (left_by t (unsigned_abs (number_of b)) (pattern_of c)) each
      (let v = with_bit 0 false (omega arith) in (v.0, v.1))
      (λ k l f z. by k z (left_open t (unsigned_abs (number_of b)) (pattern_of c) k s l f) l)
    where
      with_bit : (j : ℕ) (z : Bool) → j < 65 → (v : ℤ) × IsResult Shl t a b v ×
          ((n : ℕ) × (v ≡ wrapped t (pos (n * 2 ^ unsigned_abs (number_of b)))) ×
          (bit n j ≡ bit_or_else (pattern_of c) j z))
      with_bit j z l =
          let x = pick t (pattern_of c) (is_pattern_of c) g.left.of_type j z l in
          let n = natural_of t x.0 s x.1 in (
            wrapped t (pos (n.0 * 2 ^ unsigned_abs (number_of b))),
            result_of Shl t a b c b g (pos n.0) (number_of b) _ (subst (Has (pattern_of c)) n.1 x.2)
                (amount_held Shl t a b c g one (λ n. None)) (subst (InRange t) n.1 x.1) (number_of_some_type b)
                (left_result t n.0 (number_of b) s e),
            (n.0, refl, sym (ap (λ y. bit_of y j) n.1) ∙ x.3),
          )

      by : (k : ℕ) (z : Bool) → (k < bits_of t) × (unsigned_abs (number_of b) ≤ k) ×
          (known_bit (pattern_of c) (k - unsigned_abs (number_of b)) ≡ None) → k < 65 → (v : ℤ) × IsResult Shl t a b v
          × (bit_of v k ≡ z)
      by k z h l =
          let v = with_bit (k - unsigned_abs (number_of b)) z (omega arith) in (
            v.0,
            v.1,
            ap (λ y. bit_of y k) v.2.1 ∙ bit_wrapped t (pos (v.2.0 * 2 ^ unsigned_abs (number_of b))) k h.0
                ∙ product_high v.2.0 (unsigned_abs (number_of b)) k h.1 ∙ v.2.2 ∙ ap (λ o. unwrap_or o z) h.2,
          )

-- ---- each operator

shifted_is : (t : IntType) (b : KnownBits) (shift : ℕ → Option KnownBits) → is_one b ≡ true → is_amount t
    (number_of b) ≡ true → shifted_by t b shift ≡ shift (unsigned_abs (number_of b))
shifted_is t b shift e f =
    ap (λ x. cond x (option_and_then shift (amount_of t (number_of b))) (Some (top_of t))) e
    ∙ ap (λ x. option_and_then shift (cond x (Some (unsigned_abs (number_of b))) None)) f

module _ (o : BinOp) (t : IntType) (a b : KnownBits) where
  -- what is left to show of operands that are not both one number
  Finish : KnownBits → KnownBits → Type 0
  Finish c d = ((v : ℤ) → IsResult o t a b v → HaveIn (results_of o t c d) v) → IsExactly (IsResult o t a b)
      (results_of o t c d)

  exact_between : (c d : KnownBits) → Given o t a b c d → Finish c d → IsExactly (IsResult o t a b)
      (results_between o t c d)
  unfolding Finish
  exact_between c d g finish = at (is_one c && is_one d) refl (results_there o t a b c d g)
    where
      at : (e : Bool) → (is_one c && is_one d) ≡ e →
          ((v : ℤ) → IsResult o t a b v → HaveIn (cond e (single_result (arith_of o t (number_of c) (number_of d)))
          (results_of o t c d)) v) → IsExactly (IsResult o t a b)
          (cond e (single_result (arith_of o t (number_of c) (number_of d))) (results_of o t c d))
      at true e f = let p = and_parts (is_one c) (is_one d) e in exact_single o t a b c d g p.0 p.1
      at false e f = finish f

  -- both operands are of the type
  exact_typed : ((z : ℤ) → IsRightOperand o t z → InRange t z) →
      ((c d : KnownBits) → Given o t a b c d → IsOfType t (pattern_of d) → Finish c d) →
      IsExactly (IsResult o t a b) (option_and_then (λ c. option_and_then (results_between o t c) (left_operand t b))
      (left_operand t a))
  exact_typed range finish = at (left_operand t a) (operand_of t a) (λ x h r. left_there t a x h r) (left_operand t b)
      (operand_of t b) (λ y h r. left_there t b y h r)
    where
      at : (l : Option KnownBits) → IfSome l (Operand t a) →
          ((x : ℤ) → Has (pattern_of a) x → InRange t x → HaveIn l x) → (r : Option KnownBits) → IfSome r
          (Operand t b) → ((y : ℤ) → Has (pattern_of b) y → InRange t y → HaveIn r y) →
          IsExactly (IsResult o t a b) (option_and_then (λ c. option_and_then (results_between o t c) r) l)
      at None h i r k j = λ v w. i w.x (holds a w.x w.left) w.taken.left
      at (Some c) h i None k j = λ v w. j w.y (holds b w.y w.right) (range w.y w.taken.right)
      at (Some c) h i (Some d) k j =
          let g : Given o t a b c d = record {
            left = h;
            right_inside = k.inside;
            right_each = λ z m r. k.each z m (range z r);
            right_one = λ e. right_operand o t (number_of d) (one_in_range t b d k e);
          } in
          exact_between c d g (finish c d g k.of_type)

  -- the right operand is an amount
  exact_shifted : ((z : ℤ) → IsOfSomeType z → IsRightOperand o t z) →
      ((c : KnownBits) → Given o t a b c b → Finish c b) →
      IsExactly (IsResult o t a b) (option_and_then (λ c. option_and_then (results_between o t c) (Some b))
      (left_operand t a))
  exact_shifted any finish = at (left_operand t a) (operand_of t a) (λ x h r. left_there t a x h r)
    where
      at : (l : Option KnownBits) → IfSome l (Operand t a) →
          ((x : ℤ) → Has (pattern_of a) x → InRange t x → HaveIn l x) →
          IsExactly (IsResult o t a b) (option_and_then (λ c. option_and_then (results_between o t c) (Some b)) l)
      at None h i = λ v w. i w.x (holds a w.x w.left) w.taken.left
      at (Some c) h i =
          let g : Given o t a b c b = record {
            left = h;
            right_inside = λ z m. m;
            right_each = λ z m r. m;
            right_one = λ e. any (number_of b) (number_of_some_type b);
          } in
          exact_between c b g (finish c g)

pub value_exact : (o : BinOp) (t : IntType) (a b : KnownBits) → IsExactOp o t b → IsExactly (IsResult o t a b)
    (value_of o t a b)
unfolding Finish
value_exact Add t a b e = absurd e
value_exact Sub t a b e = absurd e
value_exact Mul t a b e = absurd e
value_exact Div t a b e = absurd e
value_exact Rem t a b e = absurd e
value_exact And t a b e =
    exact_typed And t a b (λ z r. r)
    (λ c d g u each. exact_bitwise And t a b c d g u bit_and (λ x y. x && y) and_bitwise (λ x y. refl)
    (both_of (pattern_of c) (pattern_of d)) (λ k z f. and_chosen (pattern_of c) (pattern_of d) k z f) each)
value_exact Or t a b e =
    exact_typed Or t a b (λ z r. r)
    (λ c d g u each. exact_bitwise Or t a b c d g u bit_or (λ x y. x || y) or_bitwise (λ x y. refl)
    (either_of (pattern_of c) (pattern_of d)) (λ k z f. or_chosen (pattern_of c) (pattern_of d) k z f) each)
value_exact Xor t a b e =
    exact_typed Xor t a b (λ z r. r)
    (λ c d g u each. exact_bitwise Xor t a b c d g u bit_xor differ xor_bitwise (λ x y. refl)
    (one_of (pattern_of c) (pattern_of d)) (λ k z f. xor_chosen (pattern_of c) (pattern_of d) k z f) each)
value_exact Shl t a b e =
    exact_shifted Shl t a b (λ z i. i)
    (λ c g each. exact_shift Shl t a b c g e.0 (shifted_left t c) (no_left t) (λ f.
    let n : ℕ = unsigned_abs (number_of b) in
    let same : shifted_left t c (unsigned_abs (number_of b)) ≡ formed
    (left_by t (unsigned_abs (number_of b)) (pattern_of c)) = ap
    (λ s. cond s (Some (top_of t)) (formed (left_by t (unsigned_abs (number_of b)) (pattern_of c)))) e.1 in
    subst (IsExactly (IsResult Shl t a b)) (sym same)
    (exact_left t a b c e.0 f e.1 g (λ v h. subst (λ o. HaveIn o v) (shifted_is t b (shifted_left t c) e.0 f ∙ same)
    (each v h)))))
value_exact Shr t a b e =
    exact_shifted Shr t a b (λ z i. i)
    (λ c g each. exact_shift Shr t a b c g e (shifted_right c) (no_right t) (λ f.
    exact_right t a b c e f g (λ v h. subst (λ o. HaveIn o v) (shifted_is t b (shifted_right c) e f) (each v h))))
