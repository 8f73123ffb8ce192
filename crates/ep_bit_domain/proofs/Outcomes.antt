-- The laws of operators.
use Rattle.std.specs.Prelude.{◌≡◌, ℕ, ◌≤◌, ◌*◌, ◌^◌, ℤ, pos, negsuc, ◌*ℤ◌, Bool, true, false, cond, ◌&&◌, Option}
use Rattle.ep_int.proofs.Basics.{ok-injective, is_some-value}
use Rattle.std.specs.Prelude.{Some, None, Result, Ok, Err, IsTrue, IfSome, IsSomeAnd, MatchResult, is_err}
use Rattle.std.specs.Prelude.{unsigned_abs, int_le, refl}
use Rattle.std.specs.Option.{option_and_then}
use Rattle.std.specs.Int.{int_shr}
use Rattle.std.proofs.Common.{arith, ap, sym, ◌∙◌, subst}
use Rattle.std.proofs.Math.IntN.{pos-*ℤ-pos}
use Rattle.std.proofs.lemmas.Bool.{and_from, and_parts}
use Rattle.ep_int.specs.declared.types.IntType.{IntType}
use Rattle.ep_int.specs.declared.types.BinOp.{BinOp}
use Rattle.ep_int.specs.declared.types.BinOp.TheVariants.{Add, Sub, Mul, Div, Rem, And, Or, Xor, Shl, Shr}
use Rattle.ep_int.specs.declared.types.Undef.{Undef}
use Rattle.ep_int.specs.declared.types.Undef.TheVariants.{Overflow, Shift}
use Rattle.ep_int.specs.Types.{bits_of, is_signed, InRange, residue, wrapped}
use Rattle.ep_int.specs.Arith.{arith_of, settled, is_in_range, is_amount, IsOfSomeType, IsRightOperand}
use Rattle.ep_int.proofs.Arithmetic.{arith_in_range, amount_below, in_range_some_type}
use Rattle.ep_range_laws.specs.Faults.{Takes, MayFault, range_fault_of}
use Rattle.ep_range_laws.proofs.RangeFaults.{fault_is_found, fault_is_shown}
use Rattle.ep_range_laws.proofs.Options.{then_some}
use Rattle.ep_range_laws.proofs.Comparisons.{le_self}
use Rattle.ep_domain.specs.Domain.{ShowsPart}
use Rattle.ep_domain.specs.Laws.Shared.{pair}
use Rattle.ep_bit_laws.specs.Patterns.{Pattern, Has, in_type}
use Rattle.ep_bit_laws.specs.Bits.{bit_of}
use Rattle.ep_bit_laws.specs.Results.{exact_of, by_low_bits, both_of, either_of, one_of, right_by, left_by}
use Rattle.ep_bit_laws.proofs.Patterns.{HasBits}
use Rattle.ep_bit_laws.proofs.Types.{type_has, in_type_has, from_in_type}
use Rattle.ep_bit_laws.proofs.Results.{and_bitwise, or_bitwise, xor_bitwise, bit_of_result, both_has, either_has}
use Rattle.ep_bit_laws.proofs.Results.{one_has, right_has, left_has, low_bits_has, residue_wrapped}
use Rattle.ep_bit_domain.specs.KnownBits.{KnownBits, pattern_of, formed, holds_of, top_of, range_of, is_one}
use Rattle.ep_bit_domain.specs.KnownBits.{number_of, left_operand, right_operand, amount_of, shifted_by, shifted_left}
use Rattle.ep_bit_domain.specs.KnownBits.{shifted_right, results_of, single_result, results_between, value_of}
use Rattle.ep_bit_domain.specs.KnownBits.{outcome_of}
use Rattle.ep_bit_domain.specs.Domain.{bit_ops}
use Rattle.ep_bit_domain.proofs.Formed.{is_pattern_of, holds, formed_has, formed_inside}
use Rattle.ep_bit_domain.proofs.Simple.{range_ends, range_encloses, range_single, only_member, range_from, one_range}
use Rattle.ep_bit_domain.proofs.Simple.{is_one_from, single_has, single_range, held_some}

abbrev pub HasIn : ℤ → KnownBits → Type 0
HasIn v c = Has (pattern_of c) v

abbrev pub HaveIn : Option KnownBits → ℤ → Type 0
HaveIn o v = IsSomeAnd o (HasIn v)

-- ---- what is computed

-- an exact result is what is given, or is reduced to it
settled_gives : (u : Undef) (t : IntType) (e v : ℤ) → settled u t e ≡ Ok v → (n : ℕ) → n ≤ bits_of t → residue
    (2 ^ n) v ≡ residue (2 ^ n) e
settled_gives u t e v h n l = at (is_signed t) h
  where
    checked : (b : Bool) → ◌≡◌ {A = Result ℤ Undef} (cond b (Ok e) (Err u)) (Ok v) → e ≡ v
    checked true g = cc
    checked false g = absurd cc

    inner : ◌≡◌ {A = Result ℤ Undef} (Ok (wrapped t e)) (Ok v) → wrapped t e ≡ v
    inner g = cc

    at : (b : Bool) → ◌≡◌ {A = Result ℤ Undef} (cond b (cond (is_in_range t e) (Ok e) (Err u)) (Ok (wrapped t e)))
        (Ok v) → residue (2 ^ n) v ≡ residue (2 ^ n) e
    at true g = ap (residue (2 ^ n)) (sym (checked (is_in_range t e) g))
    at false g = ap (residue (2 ^ n)) (sym (inner g)) ∙ residue_wrapped t n e l

-- ---- operators of operands that arithmetic takes

module _ (t : IntType) (a b : KnownBits) (x y v : ℤ) (h : Has (pattern_of a) x) (k : Has (pattern_of b) y) where
  low_bits_hold : (o : BinOp) → InRange t v → ((n : ℕ) → n ≤ bits_of t → residue (2 ^ n) v ≡ residue (2 ^ n)
      (exact_of o x y)) → HaveIn (formed (by_low_bits o t (pattern_of a) (pattern_of b))) v
  low_bits_hold o r e = formed_has _ v (low_bits_has o t (pattern_of a) (pattern_of b) x y v (is_pattern_of a)
      (is_pattern_of b) h k r e)

  type_holds : InRange t v → HaveIn (Some (top_of t)) v
  type_holds r = type_has t v r

  bits_hold : (p : Pattern) → HasBits p v → HaveIn (formed p) v
  bits_hold p e = formed_has p v e

  -- shifts by one amount
  amount_is : is_one b ≡ true → number_of b ≡ y
  amount_is e = sym (only_member b (number_of b) y (one_range b e) k)

  shifts_hold : (s : ℕ → Option KnownBits) → InRange t v → is_amount t y ≡ true → HaveIn (s (unsigned_abs y)) v
      → HaveIn (shifted_by t b s) v
  shifts_hold s r e f = at (is_one b) refl
    where
      of_amount : (n : ℤ) → n ≡ y → (c : Bool) → is_amount t n ≡ c → HaveIn
          (option_and_then s (cond c (Some (unsigned_abs n)) None)) v
      of_amount n g true i = subst (λ m. HaveIn (s (unsigned_abs m)) v) (sym g) f
      of_amount n g false i = absurd (clash (ap (is_amount t) g ∙ e) i)
        where
          clash : {c : Bool} → c ≡ true → c ≡ false → ⊥
          clash p q = absurd cc

      at : (c : Bool) → is_one b ≡ c → HaveIn (cond c (option_and_then s (amount_of t (number_of b)))
          (Some (top_of t))) v
      at true g = of_amount (number_of b) (amount_is g) (is_amount t (number_of b)) refl
      at false g = type_has t v r

  amount_small : is_amount t y ≡ true → unsigned_abs y ≤ 64
  amount_small e = let l = amount_below t y e in omega arith

  right_holds : InRange t x → arith_of Shr t x y ≡ Ok v → HaveIn (shifted_by t b (shifted_right a)) v
  right_holds r e = at (is_amount t y) refl e
    where
      at : (c : Bool) → is_amount t y ≡ c → ◌≡◌ {A = Result ℤ Undef}
          (cond c (Ok (int_shr x (unsigned_abs y))) (Err Shift)) (Ok v) → HaveIn (shifted_by t b (shifted_right a)) v
      at false f g = absurd cc
      at true f g =
          let i = arith_in_range Shr t x y v r e in
          let j : int_shr x (unsigned_abs y) ≡ v = ok-injective _ _ g in
          shifts_hold (shifted_right a) i f
          (subst (HaveIn (shifted_right a (unsigned_abs y))) j
          (formed_has (right_by (unsigned_abs y) (pattern_of a)) (int_shr x (unsigned_abs y))
          (right_has (unsigned_abs y) (pattern_of a) x (amount_small f) (is_pattern_of a) h
          (subst IsOfSomeType (sym j) (in_range_some_type t v i)))))

  left_holds : InRange t x → arith_of Shl t x y ≡ Ok v → HaveIn (shifted_by t b (shifted_left t a)) v
  left_holds r e = at (is_amount t y && int_le (pos 0) x) refl e
    where
      i : InRange t v
      i = arith_in_range Shl t x y v r e

      of_natural : (z : ℤ) → z ≡ x → int_le (pos 0) z ≡ true → is_signed t ≡ false → wrapped t
          (z *ℤ pos (2 ^ unsigned_abs y)) ≡ v → HaveIn (formed (left_by t (unsigned_abs y) (pattern_of a))) v
      of_natural (negsuc m) f g s q = absurd cc
      of_natural (pos m) f g s q =
          subst (HaveIn (formed (left_by t (unsigned_abs y) (pattern_of a))))
          (ap (wrapped t) (sym (pos-*ℤ-pos m (2 ^ unsigned_abs y))) ∙ q)
          (formed_has (left_by t (unsigned_abs y) (pattern_of a)) (wrapped t (pos (m * 2 ^ unsigned_abs y)))
          (left_has t (unsigned_abs y) m (pattern_of a) s (subst (Has (pattern_of a)) (sym f) h)))

      by_sign : (s : Bool) → is_signed t ≡ s → int_le (pos 0) x ≡ true → ◌≡◌ {A = Result ℤ Undef}
          (cond s (cond (is_in_range t (x *ℤ pos (2 ^ unsigned_abs y))) (Ok (x *ℤ pos (2 ^ unsigned_abs y)))
          (Err Shift)) (Ok (wrapped t (x *ℤ pos (2 ^ unsigned_abs y))))) (Ok v) → HaveIn
          (cond s (Some (top_of t)) (formed (left_by t (unsigned_abs y) (pattern_of a)))) v
      by_sign true f p q = type_has t v i
      by_sign false f p q = of_natural x refl p f (ok-injective _ _ q)

      at : (c : Bool) → (is_amount t y && int_le (pos 0) x) ≡ c → ◌≡◌ {A = Result ℤ Undef}
          (cond c (settled Shift t (x *ℤ pos (2 ^ unsigned_abs y))) (Err Shift)) (Ok v) → HaveIn
          (shifted_by t b (shifted_left t a)) v
      at false f g = absurd cc
      at true f g =
          let s = and_parts (is_amount t y) (int_le (pos 0) x) f in
          shifts_hold (shifted_left t a) i s.0 (by_sign (is_signed t) refl s.1 g)

  pub results_hold : (o : BinOp) → InRange t x → IsRightOperand o t y → arith_of o t x y ≡ Ok v → HaveIn
      (results_of o t a b) v
  results_hold Add r q e = low_bits_hold Add (arith_in_range Add t x y v r e) (settled_gives Overflow t _ v e)
  results_hold Sub r q e = low_bits_hold Sub (arith_in_range Sub t x y v r e) (settled_gives Overflow t _ v e)
  results_hold Mul r q e = low_bits_hold Mul (arith_in_range Mul t x y v r e) (settled_gives Overflow t _ v e)
  results_hold Div r q e = type_holds (arith_in_range Div t x y v r e)
  results_hold Rem r q e = type_holds (arith_in_range Rem t x y v r e)
  results_hold And r q e =
      let i = in_range_some_type t v (arith_in_range And t x y v r e) in
      bits_hold (both_of (pattern_of a) (pattern_of b))
      (both_has (pattern_of a) (pattern_of b) x y v (is_pattern_of a) (is_pattern_of b) h k i
      (λ j. ap (λ z. bit_of z j) (sym (ok-injective _ _ e)) ∙ bit_of_result _ _ and_bitwise t x y r q j))
  results_hold Or r q e =
      let i = in_range_some_type t v (arith_in_range Or t x y v r e) in
      bits_hold (either_of (pattern_of a) (pattern_of b))
      (either_has (pattern_of a) (pattern_of b) x y v (is_pattern_of a) (is_pattern_of b) h k i
      (λ j. ap (λ z. bit_of z j) (sym (ok-injective _ _ e)) ∙ bit_of_result _ _ or_bitwise t x y r q j))
  results_hold Xor r q e =
      let i = in_range_some_type t v (arith_in_range Xor t x y v r e) in
      bits_hold (one_of (pattern_of a) (pattern_of b))
      (one_has (pattern_of a) (pattern_of b) x y v (is_pattern_of a) (is_pattern_of b) h k i
      (λ j. ap (λ z. bit_of z j) (sym (ok-injective _ _ e)) ∙ bit_of_result _ _ xor_bitwise t x y r q j))
  results_hold Shl r q e = left_holds r e
  results_hold Shr r q e = right_holds r e

-- ---- operands

pub left_there : (t : IntType) (a : KnownBits) (x : ℤ) → Has (pattern_of a) x → InRange t x → HaveIn
    (left_operand t a) x
left_there t a x h r = formed_has (in_type t (pattern_of a)) x (in_type_has t (pattern_of a) x (is_pattern_of a) h r)

pub right_there : (o : BinOp) (t : IntType) (b : KnownBits) (y : ℤ) → Has (pattern_of b) y → IsRightOperand o t y
    → HaveIn (right_operand o t b) y
right_there Add t b y h r = left_there t b y h r
right_there Sub t b y h r = left_there t b y h r
right_there Mul t b y h r = left_there t b y h r
right_there Div t b y h r = left_there t b y h r
right_there Rem t b y h r = left_there t b y h r
right_there And t b y h r = left_there t b y h r
right_there Or t b y h r = left_there t b y h r
right_there Xor t b y h r = left_there t b y h r
right_there Shl t b y h r = h
right_there Shr t b y h r = h

pub between_hold : (o : BinOp) (t : IntType) (a b : KnownBits) (x y v : ℤ) → Has (pattern_of a) x → Has
    (pattern_of b) y → Takes o t x y → arith_of o t x y ≡ Ok v → HaveIn (results_between o t a b) v
between_hold o t a b x y v h k i e = at (is_one a && is_one b) refl
  where
    of_single : (r : Result ℤ Undef) → r ≡ Ok v → HaveIn (single_result r) v
    of_single r f = subst (λ r. HaveIn (single_result r) v) (sym f)
        (single_has v (in_range_some_type t v (arith_in_range o t x y v i.left e)))

    at : (c : Bool) → (is_one a && is_one b) ≡ c → HaveIn
        (cond c (single_result (arith_of o t (number_of a) (number_of b))) (results_of o t a b)) v
    at true f =
        let p = and_parts (is_one a) (is_one b) f in
        let l : x ≡ number_of a = only_member a (number_of a) x (one_range a p.0) h in
        let m : y ≡ number_of b = only_member b (number_of b) y (one_range b p.1) k in
        of_single (arith_of o t (number_of a) (number_of b))
        (sym (ap (λ z. arith_of o t z y) l ∙ ap (arith_of o t (number_of a)) m) ∙ e)
    at false f = results_hold t a b x y v h k o i.left i.right e

pub value_has : (o : BinOp) (t : IntType) (a b : KnownBits) (x y v : ℤ) → Has (pattern_of a) x → Has (pattern_of b) y
    → Takes o t x y → arith_of o t x y ≡ Ok v → HaveIn (value_of o t a b) v
value_has o t a b x y v h k i e =
    then_some (HasIn x) (HasIn v) (left_operand t a)
    (λ c. option_and_then (results_between o t c) (right_operand o t b)) (left_there t a x h i.left)
    (λ c p. then_some (HasIn y) (HasIn v) (right_operand o t b) (results_between o t c)
    (right_there o t b y k i.right) (λ d q. between_hold o t c d x y v p q i e))

pub outcome_holds : (o : BinOp) (t : IntType) (a b : KnownBits) (x y : ℤ) → Takes o t x y → IsTrue (holds_of a x)
    → IsTrue (holds_of b y) →
    MatchResult (arith_of o t x y) (λ v. IsSomeAnd (outcome_of o t a b).value (λ c. IsTrue (holds_of c v)))
    (λ _. IsTrue (outcome_of o t a b).fault)
outcome_holds o t a b x y i h k = at (arith_of o t x y) refl
  where
    at : (r : Result ℤ Undef) → arith_of o t x y ≡ r → MatchResult r
        (λ v. IsSomeAnd (outcome_of o t a b).value (λ c. IsTrue (holds_of c v)))
        (λ _. IsTrue (outcome_of o t a b).fault)
    at (Ok v) e = held_some (value_of o t a b) v (value_has o t a b x y v (holds a x h) (holds b y k) i e)
    at (Err u) e = fault_is_shown o t (range_of a) (range_of b)
        (record {
          x = x;
          y = y;
          left = range_encloses a x h;
          right = range_encloses b y k;
          taken = i;
          undefined =
              ap is_err e;
        })

pub outcome_faults : (o : BinOp) (t : IntType) (a b : KnownBits) → IsTrue (outcome_of o t a b).fault → MayFault o t
    (range_of a) (range_of b)
outcome_faults o t a b h = fault_is_found o t (range_of a) (range_of b) (range_ends b) h

pub outcome_shows : (o : BinOp) (t : IntType) (a b : KnownBits) → IsTrue (outcome_of o t a b).fault
    → ShowsPart bit_ops o t a b (outcome_of o t a b).shown
outcome_shows o t a b h = record {
  left = range_of a;
  right = range_of b;
  left_inside = record { low = le_self _; high = le_self _ };
  right_inside = record { low = le_self _; high = le_self _ };
  left_has = λ z i k. range_encloses a z k;
  right_has = λ z i k. range_encloses b z k;
  shows = is_some-value (range_fault_of o t (range_of a) (range_of b)) h;
}

-- ---- single numbers

abbrev Single : ℤ → KnownBits → Type 0
Single v c = range_of c ≡ pair v v

left_single : (t : IntType) (a : KnownBits) (x : ℤ) → Single x a → InRange t x → IsSomeAnd (left_operand t a)
    (Single x)
left_single t a x e r = at (left_operand t a) (formed_inside (in_type t (pattern_of a)))
    (left_there t a x (holds a x (range_single a x e)) r)
  where
    at : (o : Option KnownBits) → IfSome o (λ c. (z : ℤ) → Has (pattern_of c) z → Has (in_type t (pattern_of a)) z)
        → HaveIn o x → IsSomeAnd o (Single x)
    at None f h = absurd h
    at (Some c) f h = range_from c x (λ z k. only_member a x z e (from_in_type t (pattern_of a) z (f z k)))

right_single : (o : BinOp) (t : IntType) (b : KnownBits) (y : ℤ) → Single y b → IsRightOperand o t y → IsSomeAnd
    (right_operand o t b) (Single y)
right_single Add t b y e r = left_single t b y e r
right_single Sub t b y e r = left_single t b y e r
right_single Mul t b y e r = left_single t b y e r
right_single Div t b y e r = left_single t b y e r
right_single Rem t b y e r = left_single t b y e r
right_single And t b y e r = left_single t b y e r
right_single Or t b y e r = left_single t b y e r
right_single Xor t b y e r = left_single t b y e r
right_single Shl t b y e r = e
right_single Shr t b y e r = e

between_single : (o : BinOp) (t : IntType) (a b : KnownBits) (x y : ℤ) → Single x a → Single y b
    → results_between o t a b ≡ single_result (arith_of o t x y)
between_single o t a b x y e f =
    let p = is_one_from a x e in let q = is_one_from b y f in
    at (is_one a && is_one b) (and_from (is_one a) (is_one b) p.0 q.0) ∙ ap
    (λ z. single_result (arith_of o t z (number_of b))) p.1 ∙ ap (λ z. single_result (arith_of o t x z)) q.1
  where
    at : (c : Bool) → c ≡ true → cond c (single_result (arith_of o t (number_of a) (number_of b)))
        (results_of o t a b) ≡ single_result (arith_of o t (number_of a) (number_of b))
    at true g = refl
    at false g = absurd cc

value_single : (o : BinOp) (t : IntType) (a b : KnownBits) (x y : ℤ) → Takes o t x y → Single x a → Single y b
    → value_of o t a b ≡ single_result (arith_of o t x y)
value_single o t a b x y i e f = at (left_operand t a) (left_single t a x e i.left) (right_operand o t b)
    (right_single o t b y f i.right)
  where
    at : (l : Option KnownBits) → IsSomeAnd l (Single x) → (r : Option KnownBits) → IsSomeAnd r (Single y)
        → option_and_then (λ c. option_and_then (results_between o t c) r) l ≡ single_result (arith_of o t x y)
    at None h r k = absurd h
    at (Some c) h None k = absurd k
    at (Some c) h (Some d) k = between_single o t c d x y h k

pub outcome_single : (o : BinOp) (t : IntType) (a b : KnownBits) (x y : ℤ) → Takes o t x y → Single x a → Single y b →
    MatchResult (arith_of o t x y) (λ v. IsSomeAnd (outcome_of o t a b).value (Single v))
    (λ _. (outcome_of o t a b).value ≡ None)
outcome_single o t a b x y i e f = at (arith_of o t x y) refl
  where
    at : (r : Result ℤ Undef) → arith_of o t x y ≡ r → MatchResult r
        (λ v. IsSomeAnd (outcome_of o t a b).value (Single v)) (λ _. (outcome_of o t a b).value ≡ None)
    at (Ok v) g = subst (λ o. IsSomeAnd o (Single v)) (sym (value_single o t a b x y i e f ∙ ap single_result g))
        (single_range v (in_range_some_type t v (arith_in_range o t x y v i.left g)))
    at (Err u) g = value_single o t a b x y i e f ∙ ap single_result g
