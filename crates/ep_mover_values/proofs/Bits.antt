-- Forms and faults of operators of movers.
use Rattle.std.proofs.Common.{◌≡◌, ℕ, zero, suc, ◌+◌, ◌*◌, ◌/◌, ◌%◌, ◌^◌, ◌<◌, ◌≤◌, ℤ, pos, negsuc, ◌≤ℤ◌, ◌<ℤ◌, ◌*ℤ◌, Bool, true, false}
use Rattle.std.proofs.Common.{◌&&◌, ◌||◌, cond, nat_eq, nat_lt, List, [], ◌∷◌, length, take, Option, Some, None, Result, Ok, Err}
use Rattle.std.proofs.Common.{IfSome, refl, sym, ap, ◌∙◌, subst, arith}
use Rattle.std.specs.Prelude.{int_le, int_lt, unsigned_abs, is_err}
use Rattle.std.specs.Int.{int_shr}
use Rattle.std.specs.Ordering.{int_eq}
use Rattle.std.specs.List.{list_all}
use Rattle.std.proofs.lemmas.Int.{ints}
use Rattle.std.proofs.lemmas.Bool.{and_parts, and_from, eqb-true, ltb-true}
use Rattle.std.proofs.lemmas.Bool.Decides.{Decides-int_eq}
use Rattle.std.proofs.lemmas.List.{length-take-le}
use Rattle.std.proofs.Common.{length-append, length-drop, drop, ◌++◌}
use Rattle.ep_int.specs.declared.types.IntType.{IntType}
use Rattle.ep_int.specs.declared.types.IntType.TheVariants.{I8, U8, I16, U16, I32, U32, I64, U64}
use Rattle.ep_int.specs.declared.types.BinOp.{BinOp}
use Rattle.ep_int.specs.declared.types.BinOp.TheVariants.{Add, Sub, Mul, Div, Rem, And, Or, Xor, Shl, Shr}
use Rattle.ep_int.specs.declared.types.Undef.{Undef}
use Rattle.ep_int.specs.declared.types.Undef.TheVariants.{Shift}
use Rattle.ep_int.specs.Types.{InRange, bytes_of, bits_of, residue, representation, wrapped}
use Rattle.ep_int.specs.Arith.{is_in_range, is_amount, arith_of}
use Rattle.ep_int.proofs.Arithmetic.{le_test, in_range_from_true}
use Rattle.ep_bitslice.specs.Bits.{Bit, fixed, is_odd, masked as masked_bits}
use Rattle.ep_bitslice.specs.Segments.{fixed_bits, bits, normal, form_of}
use Rattle.ep_bitslice.proofs.Appending.{bits-normal}
use Rattle.ep_range_laws.specs.Ranges.{LiesIn}
use Rattle.ep_range_laws.specs.Faults.{MayFault, is_shift}
use Rattle.ep_domain.specs.Domain.{Ops, Lawful, IsSingle}
use Rattle.ep_cells.specs.Reshare.{is_single}
use Rattle.ep_evaluation.specs.Operators.{Form, amount_in, left_shift, right_shift, mask_of, and_form, disjoint_form}
use Rattle.ep_evaluation.specs.Operators.{form_by}
use Rattle.ep_movers.specs.declared.Stop.{Stop}
use Rattle.ep_movers.specs.declared.Stop.TheVariants.{Foreign}
use Rattle.ep_movers.specs.Symbols.{Symbol, fixed_bytes, zeros, masked, moved_up, moved_down, merged, bytes_moved}
use Rattle.ep_movers.specs.Symbols.{is_mask, masked_by, shifted, operated}
use Rattle.ep_movers.specs.Forms.{is_byte_amount, is_operated_in, is_moving_op}
use Rattle.ep_mover_bits.specs.Laws.{Inputs, bits_of_bytes, HasBytes}
use Rattle.ep_mover_bits.proofs.Operators.{length_fixed, length_up, length_masked, constant_bits, merged_bits, bytes_most}
use Rattle.ep_mover_bits.proofs.Forms.{forms_follow}
use Rattle.ep_mover_cells.proofs.Loaded.{ok_same}

int_itself : (v : ℤ) → int_eq v v ≡ true
int_itself v = (Decides-int_eq v v).1 refl

-- ---- amounts

record IsBytes (t : IntType) (v : ℤ) : Type 0 where
  is : v ≡ pos (8 * bytes_moved v)
  below : bytes_moved v < bytes_of t

eight : (n : ℕ) → n < 256 → n % 256 % 8 ≡ 0 → n ≡ 8 * (n % 256 / 8)
eight n h e = omega (arith, h, e)

amount_by : (t : IntType) (v : ℤ) → InRange U8 v → residue 256 v % 8 ≡ 0 → bytes_moved v < bytes_of t → IsBytes t v
amount_by t (pos n) h e l =
    let b : n < 256 = omega (arith, ints, h.high) in
    record { is = ap pos (eight n b e); below = l }
amount_by t (negsuc n) h e l = absurd (let z : ⊥ = omega (arith, ints, h.low) in z)

amount_is : (t : IntType) (v : ℤ) → is_byte_amount t (Some v) ≡ true → IsBytes t v
amount_is t v h =
    let a = and_parts (is_in_range U8 v) (nat_eq (residue 256 v % 8) 0 && nat_lt (bytes_moved v) (bytes_of t)) h in
    let c = and_parts (nat_eq (residue 256 v % 8) 0) (nat_lt (bytes_moved v) (bytes_of t)) a.1 in
    amount_by t v (in_range_from_true U8 v a.0) (eqb-true (residue 256 v % 8) 0 c.0)
    (ltb-true (bytes_moved v) (bytes_of t) c.1)

amount_test : (t : IntType) (v : ℤ) → IsBytes t v → is_amount t v ≡ true
amount_test t v a =
    let e = a.is in
    let l = a.below in
    and_from (int_le (pos 0) v) (int_lt v (pos (bits_of t)))
    (le_test (pos 0) v (omega (arith, ints, e)))
    (let k : v <ℤ pos (bits_of t) = omega (arith, ints, e, l) in lt_test v (pos (bits_of t)) k)
  where
    lt_test : (a b : ℤ) → a <ℤ b → int_lt a b ≡ true
    lt_test a b h = grind (arith, ints)

amount_in_is : (t : IntType) (v : ℤ) → IsBytes t v → amount_in t (v, v) ≡ Some (8 * bytes_moved v)
amount_in_is t v a =
    ap (λ b. cond (b && is_amount t v) (Some (unsigned_abs v)) None) (int_itself v)
    ∙ ap (λ b. cond b (Some (unsigned_abs v)) None) (amount_test t v a)
    ∙ ap (λ z. Some (unsigned_abs z)) a.is

-- ---- no faults

abbrev IsFine : IntType → ℤ → ℤ → BinOp → Type 0
IsFine t x y o = is_err (arith_of o t x y) ≡ false

sum_fine : (t : IntType) (x y : ℤ) → is_operated_in t ≡ true → IsFine t x y Add
sum_fine I8 x y h = absurd (cc)
sum_fine U8 x y h = absurd (cc)
sum_fine I16 x y h = absurd (cc)
sum_fine U16 x y h = absurd (cc)
sum_fine I32 x y h = absurd (cc)
sum_fine U32 x y h = refl
sum_fine I64 x y h = absurd (cc)
sum_fine U64 x y h = refl

-- a number, where something holds
abbrev guarded : Bool → ℤ → Result ℤ Undef
guarded b v = cond b (Ok v) (Err Shift)

guarded_fine : (b : Bool) (v : ℤ) → b ≡ true → is_err (guarded b v) ≡ false
guarded_fine true v e = refl
guarded_fine false v e = absurd (cc)

shift_fine : (t : IntType) (x y : ℤ) → is_operated_in t ≡ true → InRange t x → is_amount t y ≡ true
    → IsFine t x y Shl
shift_fine I8 x y h r a = absurd (cc)
shift_fine U8 x y h r a = absurd (cc)
shift_fine I16 x y h r a = absurd (cc)
shift_fine U16 x y h r a = absurd (cc)
shift_fine I32 x y h r a = absurd (cc)
shift_fine U32 x y h r a =
    guarded_fine (is_amount U32 y && int_le (pos 0) x) (wrapped U32 (x *ℤ pos (2 ^ unsigned_abs y)))
    (and_from (is_amount U32 y) (int_le (pos 0) x) a (le_test (pos 0) x r.low))
shift_fine I64 x y h r a = absurd (cc)
shift_fine U64 x y h r a =
    guarded_fine (is_amount U64 y && int_le (pos 0) x) (wrapped U64 (x *ℤ pos (2 ^ unsigned_abs y)))
    (and_from (is_amount U64 y) (int_le (pos 0) x) a (le_test (pos 0) x r.low))

right_fine : (t : IntType) (x y : ℤ) → is_amount t y ≡ true → IsFine t x y Shr
right_fine t x y a = guarded_fine (is_amount t y) (int_shr x (unsigned_abs y)) a

-- v is the right operand as a constant
op_fine : (o : BinOp) (t : IntType) (u v : Option ℤ) (x y : ℤ) → is_moving_op o t u v ≡ true → InRange t x
    → ((z : ℤ) → v ≡ Some z → y ≡ z) → IsFine t x y o
op_fine Add t u v x y h r e = sum_fine t x y h
op_fine Sub t u v x y h r e = absurd (cc)
op_fine Mul t u v x y h r e = absurd (cc)
op_fine Div t u v x y h r e = absurd (cc)
op_fine Rem t u v x y h r e = absurd (cc)
op_fine And t u v x y h r e = refl
op_fine Or t u v x y h r e = refl
op_fine Xor t u v x y h r e = refl
op_fine Shl t u None x y h r e =
    absurd (let z : false ≡ true = (and_parts (is_operated_in t) false h).1 in cc)
op_fine Shl t u (Some z) x y h r e =
    let a = and_parts (is_operated_in t) (is_byte_amount t (Some z)) h in
    shift_fine t x y a.0 r
    (subst (λ w. is_amount t w ≡ true) (sym (e z refl)) (amount_test t z (amount_is t z a.1)))
op_fine Shr t u None x y h r e =
    absurd (let z : false ≡ true = (and_parts (is_operated_in t) false h).1 in cc)
op_fine Shr t u (Some z) x y h r e =
    let a = and_parts (is_operated_in t) (is_byte_amount t (Some z)) h in
    right_fine t x y (subst (λ w. is_amount t w ≡ true) (sym (e z refl)) (amount_test t z (amount_is t z a.1)))

one_number : (y z : ℤ) (r : ℤ × ℤ) → LiesIn r y → r ≡ (z, z) → y ≡ z
one_number y z r l e =
    let low : z ≤ℤ y = subst (λ (q : ℤ × ℤ). q.0 ≤ℤ y) e l.low in
    let high : y ≤ℤ z = subst (λ (q : ℤ × ℤ). y ≤ℤ q.1) e l.high in
    omega (arith, ints, low, high)

pub no_fault : {N : Type 0} (D : Ops N) → Lawful D → (o : BinOp) (t : IntType) (u v : Option ℤ) (a b : N)
    → is_moving_op o t u v ≡ true → ((z : ℤ) → v ≡ Some z → IsSingle D b z) → (D.op o t a b).fault ≡ false
no_fault D law o t u v a b h single = by (D.op o t a b).fault refl
  where
    by : (f : Bool) → (D.op o t a b).fault ≡ f → f ≡ false
    by false e = refl
    by true e =
        let m = law.op_faults o t a b e in
        absurd (let z : true ≡ false = sym m.undefined ∙ op_fine o t u v m.x m.y h m.taken.left
        (λ z q. one_number m.y z (D.range b) m.right (single z q)) in cc)

-- ---- lengths

length_down : (n : ℕ) (xs : List Symbol) → length (moved_down n xs) ≡ length xs
length_down n xs =
    length-take-le (length xs) (drop n xs ++ zeros n)
    (omega (arith, length-append (drop n xs) (zeros n), length-drop n xs, length_fixed (pos 0) 0 n))

-- ---- forms

half_masked : (a b : Bool) → cond a (fixed b) (fixed false) ≡ cond b (fixed a) (fixed false)
half_masked true true = refl
half_masked true false = refl
half_masked false true = refl
half_masked false false = refl

-- of two numbers each masks the other alike
masks_alike : (w m n : ℕ) → masked_bits m (fixed_bits w n) ≡ masked_bits n (fixed_bits w m)
masks_alike zero m n = refl
masks_alike (suc w) m n =
    ap (λ b. b ∷ masked_bits (m / 2) (fixed_bits w (n / 2))) (half_masked (is_odd m) (is_odd n))
    ∙ ap (λ bs. cond (is_odd n) (fixed (is_odd m)) (fixed false) ∷ bs) (masks_alike w (m / 2) (n / 2))

mask_some : (v : Option ℤ) → is_mask v ≡ true → (z : ℤ) × (v ≡ Some z)
mask_some None h = absurd (cc)
mask_some (Some z) h = (z, refl)

single_is : (r : ℤ × ℤ) → is_single r ≡ true → r ≡ (r.0, r.0)
single_is r h =
    let e : r.0 ≡ r.1 = (Decides-int_eq r.0 r.1).0 h in ap (λ (y : ℤ). (r.0, y)) (sym e)

module _ (base : Inputs) where
  pub some_form : (f : Form) (xs : List Symbol) → HasBytes base f xs → f ≡ Some (normal (bits_of_bytes base xs))
  some_form f xs h = h.form ∙ (forms_follow base).few xs h.few

  mask_of_fixed : (t : IntType) (f : Form) (w z : ℤ) → HasBytes base f (fixed_bytes w 0 (bytes_of t))
      → mask_of t f (z, z)
      ≡ form_of (masked_bits (representation t z) (fixed_bits (bits_of t) (representation t w)))
  mask_of_fixed t f w z h =
      ap (λ g. mask_of t g (z, z)) (some_form f (fixed_bytes w 0 (bytes_of t)) h)
      ∙ ap (λ b. cond b (form_of (masked_bits (representation t z)
      (bits (normal (bits_of_bytes base (fixed_bytes w 0 (bytes_of t))))))) None) (int_itself z)
      ∙ ap (λ bs. form_of (masked_bits (representation t z) bs))
      (bits-normal (bits_of_bytes base (fixed_bytes w 0 (bytes_of t))) ∙ constant_bits base t w)

  -- the left operand is the mask, and the right is a single number
  left_mask : (t : IntType) (f g : Form) (w z : ℤ) → HasBytes base f (fixed_bytes w 0 (bytes_of t))
      → HasBytes base g (fixed_bytes z 0 (bytes_of t)) → is_mask (Some w) ≡ true
      → HasBytes base (mask_of t f (z, z)) (masked w 0 (fixed_bytes z 0 (bytes_of t)))
  left_mask t f g w z h k m =
      let e : mask_of t f (z, z) ≡ mask_of t g (w, w)
      = mask_of_fixed t f w z h
      ∙ ap form_of (masks_alike (bits_of t) (representation t z) (representation t w))
      ∙ sym (mask_of_fixed t g z w k) in
      subst (λ a. HasBytes base a (masked w 0 (fixed_bytes z 0 (bytes_of t)))) (sym e)
      ((forms_follow base).mask t g w (fixed_bytes z 0 (bytes_of t)) k (length_fixed z 0 (bytes_of t)) m)

  -- what is known of two operands of a type, with their ranges, and their numbers where they are constants
  pub record Operands (t : IntType) (f g : Form) (r s : ℤ × ℤ) (u v : Option ℤ) (xs ys : List Symbol) : Type 0 where
    pub left : HasBytes base f xs
    pub right : HasBytes base g ys
    pub wide : length xs ≡ bytes_of t
    pub natural : pos 0 ≤ℤ r.0
    pub left_constant : (z : ℤ) → u ≡ Some z → r ≡ (z, z)
    pub right_constant : (z : ℤ) → v ≡ Some z → s ≡ (z, z)
    pub left_fixed : (z : ℤ) → r ≡ (z, z) → xs ≡ fixed_bytes z 0 (bytes_of t)
    pub right_fixed : length ys ≡ bytes_of t → (z : ℤ) → s ≡ (z, z) → ys ≡ fixed_bytes z 0 (bytes_of t)

  pub record Follows (t : IntType) (f : Form) (zs : List Symbol) : Type 0 where
    pub form : HasBytes base f zs
    pub wide : length zs ≡ bytes_of t

  module _ (t : IntType) (f g : Form) (r s : ℤ × ℤ) (u v : Option ℤ) (xs ys : List Symbol)
      (o : Operands t f g r s u v xs ys) where
    sum_follows : (zs : List Symbol) → length ys ≡ bytes_of t → merged xs ys ≡ Ok zs
        → Follows t (disjoint_form f g) zs
    sum_follows zs l e =
        let w : length xs ≡ length ys = o.wide ∙ sym l in
        record {
          form = (forms_follow base).disjoint f g xs ys zs o.left o.right w e;
          wide = (merged_bits base xs ys zs w o.left.bytes o.right.bytes e).length_is ∙ o.wide;
        }

    right_masks : (zs : List Symbol) (z : ℤ) → v ≡ Some z → is_mask (Some z) ≡ true → masked z 0 xs ≡ zs
        → Follows t (and_form t f r g s) zs
    right_masks zs z e m q =
        let i : and_form t f r g s ≡ mask_of t f (z, z)
        = ap (λ h. and_form t h r g s) (some_form f xs o.left)
        ∙ ap (λ c. and_form t (Some (normal (bits_of_bytes base xs))) r g c) (o.right_constant z e)
        ∙ ap (λ b. cond b (mask_of t (Some (normal (bits_of_bytes base xs))) (z, z)) (mask_of t g r)) (int_itself z)
        ∙ ap (λ h. mask_of t h (z, z)) (sym (some_form f xs o.left)) in
        record {
          form = subst (λ ws. HasBytes base (and_form t f r g s) ws) q
              (subst (λ a. HasBytes base a (masked z 0 xs)) (sym i)
              ((forms_follow base).mask t f z xs o.left o.wide m));
          wide = sym (ap length q) ∙ length_masked z 0 xs ∙ o.wide;
        }

    left_masks : (zs : List Symbol) (w : ℤ) → u ≡ Some w → is_mask (Some w) ≡ true → length ys ≡ bytes_of t
        → masked w 0 ys ≡ zs → (c : Bool) → is_single s ≡ c
        → HasBytes base (cond c (mask_of t f s) (mask_of t g r)) zs
    left_masks zs w e m l q false i =
        subst (λ ws. HasBytes base (mask_of t g r) ws) q
        (subst (λ a. HasBytes base (mask_of t g a) (masked w 0 ys)) (sym (o.left_constant w e))
        ((forms_follow base).mask t g w ys o.right l m))
    left_masks zs w e m l q true i =
        let one = single_is s i in
        let x = o.left_fixed w (o.left_constant w e) in
        let y = o.right_fixed l s.0 one in
        subst (λ ws. HasBytes base (mask_of t f s) ws) (ap (masked w 0) (sym y) ∙ q)
        (subst (λ a. HasBytes base (mask_of t f a) (masked w 0 (fixed_bytes s.0 0 (bytes_of t)))) (sym one)
        (left_mask t f g w s.0 (subst (λ ws. HasBytes base f ws) x o.left)
        (subst (λ ws. HasBytes base g ws) y o.right) m))

    and_is : and_form t f r g s ≡ cond (is_single s) (mask_of t f s) (mask_of t g r)
    and_is =
        ap (λ h. and_form t h r g s) (some_form f xs o.left)
        ∙ ap (λ h. cond (is_single s) (mask_of t h s) (mask_of t g r)) (sym (some_form f xs o.left))

    mask_follows : (zs : List Symbol) → length ys ≡ bytes_of t → (is_mask v || is_mask u) ≡ true
        → operated And u v xs ys ≡ Ok zs → Follows t (and_form t f r g s) zs
    mask_follows zs l h e = by (is_mask v) refl h e
      where
        masked_ok : (w : Option ℤ) (z : ℤ) (ws : List Symbol) → w ≡ Some z → masked_by w ws ≡ Ok zs
            → masked z 0 ws ≡ zs
        masked_ok w z ws i j = ok_same (masked z 0 ws) zs (sym (ap (λ a. masked_by a ws) i) ∙ j)

        by : (b : Bool) → is_mask v ≡ b → (b || is_mask u) ≡ true
            → cond b (masked_by v xs) (masked_by u ys) ≡ Ok zs → Follows t (and_form t f r g s) zs
        by true i a j =
            let z = mask_some v i in
            right_masks zs z.0 z.1 (sym (ap is_mask z.1) ∙ i) (masked_ok v z.0 xs z.1 j)
        by false i a j =
            let w = mask_some u a in
            let q = masked_ok u w.0 ys w.1 j in
            record {
              form = subst (λ a. HasBytes base a zs) (sym and_is)
                  (left_masks zs w.0 w.1 (sym (ap is_mask w.1) ∙ a) l q (is_single s) refl);
              wide = sym (ap length q) ∙ length_masked w.0 0 ys ∙ l;
            }

    up_follows : (zs : List Symbol) (z : ℤ) → v ≡ Some z → is_byte_amount t (Some z) ≡ true
        → moved_up (bytes_moved z) xs ≡ zs → Follows t (left_shift f (amount_in t s)) zs
    up_follows zs z e h q =
        let a = amount_is t z h in
        let n : bytes_moved z ≤ length xs = omega (arith, a.below, o.wide) in
        let i : amount_in t s ≡ Some (8 * bytes_moved z) = ap (amount_in t) (o.right_constant z e) ∙ amount_in_is t z a in
        record {
          form = subst (λ ws. HasBytes base (left_shift f (amount_in t s)) ws) q
              (subst (λ b. HasBytes base (left_shift f b) (moved_up (bytes_moved z) xs)) (sym i)
              ((forms_follow base).up f (bytes_moved z) xs o.left n));
          wide = sym (ap length q) ∙ length_up (bytes_moved z) xs n ∙ o.wide;
        }

    down_follows : (zs : List Symbol) (z : ℤ) → v ≡ Some z → is_byte_amount t (Some z) ≡ true
        → moved_down (bytes_moved z) xs ≡ zs
        → Follows t (cond (int_le (pos 0) r.0) (right_shift f (amount_in t s)) None) zs
    down_follows zs z e h q =
        let a = amount_is t z h in
        let n : bytes_moved z ≤ length xs = omega (arith, a.below, o.wide) in
        let i : amount_in t s ≡ Some (8 * bytes_moved z) = ap (amount_in t) (o.right_constant z e) ∙ amount_in_is t z a in
        let j : cond (int_le (pos 0) r.0) (right_shift f (amount_in t s)) None ≡ right_shift f (amount_in t s)
        = ap (λ b. cond b (right_shift f (amount_in t s)) None) (le_test (pos 0) r.0 o.natural) in
        record {
          form = subst (λ g. HasBytes base g zs) (sym j)
              (subst (λ ws. HasBytes base (right_shift f (amount_in t s)) ws) q
              (subst (λ b. HasBytes base (right_shift f b) (moved_down (bytes_moved z) xs)) (sym i)
              ((forms_follow base).down f (bytes_moved z) xs o.left n)));
          wide = sym (ap length q) ∙ length_down (bytes_moved z) xs ∙ o.wide;
        }

    shift_some : (go : ℕ → List Symbol → List Symbol) (w : Option ℤ) (zs : List Symbol) → w ≡ v
        → is_byte_amount t w ≡ true → shifted go w xs ≡ Ok zs
        → (z : ℤ) × (v ≡ Some z) × (is_byte_amount t (Some z) ≡ true) × (go (bytes_moved z) xs ≡ zs)
    shift_some go None zs e h q = absurd (cc)
    shift_some go (Some z) zs e h q = (z, sym e, h, ok_same (go (bytes_moved z) xs) zs q)

    -- the right operand of a shift may have any type, that of others has the operator's
    pub form_follows : (op : BinOp) (zs : List Symbol) → is_moving_op op t u v ≡ true
        → (is_shift op ≡ false → length ys ≡ bytes_of t) → operated op u v xs ys ≡ Ok zs
        → Follows t (form_by op t f r g s) zs
    form_follows Add zs h l e = sum_follows zs (l refl) e
    form_follows Or zs h l e = sum_follows zs (l refl) e
    form_follows Xor zs h l e = sum_follows zs (l refl) e
    form_follows And zs h l e =
        mask_follows zs (l refl) (and_parts (is_operated_in t) (is_mask v || is_mask u) h).1 e
    form_follows Shl zs h l e =
        let q = shift_some moved_up v zs refl (and_parts (is_operated_in t) (is_byte_amount t v) h).1 e in
        up_follows zs q.0 q.1 q.2 q.3
    form_follows Shr zs h l e =
        let q = shift_some moved_down v zs refl (and_parts (is_operated_in t) (is_byte_amount t v) h).1 e in
        down_follows zs q.0 q.1 q.2 q.3
    form_follows Sub zs h l e = absurd (cc)
    form_follows Mul zs h l e = absurd (cc)
    form_follows Div zs h l e = absurd (cc)
    form_follows Rem zs h l e = absurd (cc)
