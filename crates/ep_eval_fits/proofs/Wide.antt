-- Forms have the widths of their types.
use Rattle.std.proofs.Common.{◌≡◌, ℕ, ◌+◌, ◌-◌, ◌<◌, ◌≤◌, ℤ, pos, ◌<ℤ◌, ◌≤ℤ◌, Bool, true, false, ◌&&◌, ◌||◌, not}
use Rattle.ep_int.proofs.Arithmetic.{le_fact}
use Rattle.ep_int.proofs.Basics.{minus-zero}
use Rattle.std.proofs.Common.{nat_eq, nat_lt, nat_le, int_le, int_lt, unsigned_abs, cond, List, [], ◌∷◌, length}
use Rattle.std.proofs.Common.{Option, Some, None, refl, sym, ap, ◌∙◌, subst, arith}
use Rattle.std.specs.Prelude.{IfSome}
use Rattle.std.specs.Option.{option_map}
use Rattle.std.proofs.lemmas.Bool.{and_parts, eqb-true}
use Rattle.std.proofs.lemmas.Bool.Decides.{nat_tests}
use Rattle.std.proofs.lemmas.Int.{ints}
use Rattle.ep_int.specs.declared.types.IntType.{IntType}
use Rattle.ep_int.specs.declared.types.IntType.TheVariants.{I32}
use Rattle.ep_int.specs.declared.types.BinOp.{BinOp}
use Rattle.ep_int.specs.declared.types.BinOp.TheVariants.{Add, Sub, Mul, Div, Rem, And, Or, Xor, Shl, Shr}
use Rattle.ep_int.specs.declared.types.Scalar.{Scalar}
use Rattle.ep_int.specs.declared.types.Scalar.TheVariants.{Int, Pointer}
use Rattle.ep_int.specs.Types.{bits_of, is_signed, representation}
use Rattle.ep_range_laws.proofs.Comparisons.{from_lt_true}
use Rattle.ep_bitslice.specs.declared.segment.Segment.{Segment}
use Rattle.ep_bitslice.specs.Bits.{Bit, shifted_left, shifted_right, masked, extended, part_of, are_disjoint, either_of}
use Rattle.ep_bitslice.specs.Segments.{bits, normal, width, form_of, or_of}
use Rattle.ep_bitslice.proofs.Appending.{bits-normal}
use Rattle.ep_bitslice.proofs.Parts.{width-shifted_left, width-shifted_right, width-masked, width-either}
use Rattle.ep_bitslice.proofs.Parts.{width-extended, width-part_of}
use Rattle.ep_domain.specs.Domain.{Ops}
use Rattle.ep_bitslice.specs.declared.cell.Side.{Side as CellSide}
use Rattle.ep_cells.specs.declared.cell.Value.{Value}
use Rattle.ep_cells.specs.declared.cell.Value.TheVariants.{Num}
use Rattle.ep_cells.specs.States.{Known, AreCells, HasWidth}
use Rattle.ep_cells.specs.Reshare.{is_single}
use Rattle.ep_reads.specs.declared.read.ReadValue.{ReadValue}
use Rattle.ep_reads.specs.Read.{read}
use Rattle.ep_reads.specs.Laws.{ReadLaws, IsFormRead}
use Rattle.ep_core.specs.Program.{Place, block, deref, member, element, Expr, const, null_value, load, addr_of, binary}
use Rattle.ep_core.specs.Program.{convert, compare, ptr_compare, logical_and, logical_or, logical_not, conditional}
use Rattle.ep_core.specs.Program.{ptr_add, cast}
use Rattle.ep_core.specs.Runs.{Side, left, right}
use Rattle.ep_core.specs.WellFormed.{int_type_of, right_type}
use Rattle.ep_equalities.specs.declared.pair.Mode.{Mode}
use Rattle.ep_equalities.specs.declared.pair.Mode.TheVariants.{Both, Left, Right}
use Rattle.ep_equalities.specs.declared.pair.SideValue.{SideValue}
use Rattle.ep_cell_ranges.specs.Spots.{Spot}
use Rattle.ep_evaluation.specs.Given.{cells_of, on, pair_on, nothing}
use Rattle.ep_evaluation.specs.Operators.{Form, constant_form, amount_in, left_shift, right_shift, mask_of, and_form}
use Rattle.ep_evaluation.specs.Operators.{disjoint_form, form_by, converted_form}
use Rattle.ep_evaluation.specs.Accesses.{reads_of, form_of_reads}
use Rattle.ep_evaluation.specs.Evaluation.{number, outcome, formless, binary_side, convert_side, load_side}
use Rattle.ep_evaluation.specs.Evaluation.{expression, place, form_of_numbers, form_if, convert_form, places_at}
use Rattle.ep_eval_sides.specs.Forms.{IsWide, IsWideIf}
use Rattle.ep_eval_fits.specs.Fitting.{ExprIsFit}

-- ---- forms of bits

wide_bits : (bs : List Bit) (w : ℕ) → ((f : List Segment) → bits f ≡ bs → width f ≡ w)
    → IfSome (form_of bs) (λ f. width f ≡ w)
wide_bits bs w h = split (nat_le (length (normal bs)) 8)
  where
    split : (t : Bool) → IfSome (cond t (Some (normal bs)) None) (λ f. width f ≡ w)
    split true = h (normal bs) (bits-normal bs)
    split false = tt

amount_below : (t : IntType) (r : ℤ × ℤ) → IfSome (amount_in t r) (λ k. k < bits_of t)
amount_below t r = split (is_single r && (int_le (pos 0) r.0 && int_lt r.0 (pos (bits_of t)))) refl
  where
    split : (b : Bool) → (is_single r && (int_le (pos 0) r.0 && int_lt r.0 (pos (bits_of t)))) ≡ b
        → IfSome (cond b (Some (unsigned_abs r.0)) None) (λ k. k < bits_of t)
    split false e = tt
    split true e =
        let p = and_parts (is_single r) (int_le (pos 0) r.0 && int_lt r.0 (pos (bits_of t))) e in
        let q = and_parts (int_le (pos 0) r.0) (int_lt r.0 (pos (bits_of t))) p.1 in
        below r.0 (bits_of t) (le_fact (pos 0) r.0 q.0) (from_lt_true r.0 (pos (bits_of t)) q.1)
      where
        below : (z : ℤ) (n : ℕ) → pos 0 ≤ℤ z → z <ℤ pos n → unsigned_abs z < n
        below z n h i = omega (arith, ints, h, i)

module _ (t : IntType) where
  left_wide : (f : Form) (k : Option ℕ) → IsWide t f → IfSome k (λ k. k < bits_of t) → IsWide t (left_shift f k)
  left_wide None k h i = tt
  left_wide (Some f) None h i = tt
  left_wide (Some f) (Some k) h i =
      wide_bits (shifted_left k (bits f)) (bits_of t) (λ g e. width-shifted_left g f k (omega (arith, h, i)) e ∙ h)

  right_wide : (f : Form) (k : Option ℕ) → IsWide t f → IfSome k (λ k. k < bits_of t) → IsWide t (right_shift f k)
  right_wide None k h i = tt
  right_wide (Some f) None h i = tt
  right_wide (Some f) (Some k) h i =
      wide_bits (shifted_right k (bits f)) (bits_of t) (λ g e. width-shifted_right g f k (omega (arith, h, i)) e ∙ h)

  mask_wide : (f : Form) (r : ℤ × ℤ) → IsWide t f → IsWide t (mask_of t f r)
  mask_wide None r h = tt
  mask_wide (Some f) r h = split (is_single r)
    where
      split : (b : Bool) → IsWide t (cond b (form_of (masked (representation t r.0) (bits f))) None)
      split true = wide_bits (masked (representation t r.0) (bits f)) (bits_of t)
          (λ g e. width-masked g f (representation t r.0) e ∙ h)
      split false = tt

  and_wide : (f : Form) (r : ℤ × ℤ) (g : Form) (s : ℤ × ℤ) → IsWide t f → IsWide t g → IsWide t (and_form t f r g s)
  and_wide None r g s h i = mask_wide g r i
  and_wide (Some f) r g s h i = split (is_single s) (mask_wide (Some f) s h)
    where
      split : (b : Bool) → IsWide t (mask_of t (Some f) s)
          → IsWide t (cond b (mask_of t (Some f) s) (mask_of t g r))
      split true w = w
      split false w = mask_wide g r i

  or_wide : (f g : List Segment) → IsWide t (Some f) → IsWide t (or_of f g)
  or_wide f g h = split (are_disjoint (bits f) (bits g)) refl
    where
      split : (b : Bool) → are_disjoint (bits f) (bits g) ≡ b → IsWide t (cond b (form_of (either_of (bits f) (bits g))) None)
      split true e = wide_bits (either_of (bits f) (bits g)) (bits_of t) (λ u q. width-either u f g e q ∙ h)
      split false e = tt

  disjoint_wide : (f g : Form) → IsWide t f → IsWide t (disjoint_form f g)
  disjoint_wide None g h = tt
  disjoint_wide (Some f) None h = tt
  disjoint_wide (Some f) (Some g) h = or_wide f g h

  shr_wide : (f : Form) (z : ℤ) (s : ℤ × ℤ) → IsWide t f
      → IsWide t (cond (int_le (pos 0) z) (right_shift f (amount_in t s)) None)
  shr_wide f z s h = split (int_le (pos 0) z)
    where
      split : (b : Bool) → IsWide t (cond b (right_shift f (amount_in t s)) None)
      split true = right_wide f (amount_in t s) h (amount_below t s)
      split false = tt

  RightIsWide : BinOp → Form → Type 0
  RightIsWide o g = (own : Option IntType) → right_type o t own ≡ own → IsWideIf own g

  form_wide : (o : BinOp) (f : Form) (r : ℤ × ℤ) (g : Form) (s : ℤ × ℤ) (own : Option IntType) → IsWide t f
      → right_type o t own ≡ own → IsWideIf own g → IsWide t (form_by o t f r g s)
  form_wide Add f r g s own h e i = disjoint_wide f g h
  form_wide Sub f r g s own h e i = tt
  form_wide Mul f r g s own h e i = tt
  form_wide Div f r g s own h e i = tt
  form_wide Rem f r g s own h e i = tt
  form_wide And f r g s own h e i = and_wide f r g s h (subst (λ o. IsWideIf o g) (sym e) i)
  form_wide Or f r g s own h e i = disjoint_wide f g h
  form_wide Xor f r g s own h e i = disjoint_wide f g h
  form_wide Shl f r g s own h e i = left_wide f (amount_in t s) h (amount_below t s)
  form_wide Shr f r g s own h e i = shr_wide f r.0 s h

  converted_wide : (u : IntType) (z : ℤ) (f : List Segment) → width f ≡ bits_of u → IsWide t (converted_form u t z f)
  converted_wide u z f h = same (nat_eq (bits_of t) (bits_of u)) refl
    where
      longer : (b : Bool) → bits_of u ≤ bits_of t → IsWide t (cond b (form_of (extended (bits_of t) (bits f))) None)
      longer true l = wide_bits (extended (bits_of t) (bits f)) (bits_of t)
          (λ g e. width-extended g f (bits_of t) (omega (arith, h, l)) e)
      longer false l = tt

      shorter : (b : Bool) → nat_lt (bits_of t) (bits_of u) ≡ b
          → IsWide t (cond b (Some (normal (part_of 0 (bits_of t) (bits f))))
          (cond (not (is_signed u) || int_le (pos 0) z) (form_of (extended (bits_of t) (bits f))) None))
      shorter true e =
          width-part_of (normal (part_of 0 (bits_of t) (bits f))) f 0 (bits_of t) (omega arith)
          (grind (arith, nat_tests, e, h)) (bits-normal (part_of 0 (bits_of t) (bits f))) ∙ minus-zero (bits_of t)
      shorter false e = longer (not (is_signed u) || int_le (pos 0) z) (grind (arith, nat_tests, e))

      same : (b : Bool) → nat_eq (bits_of t) (bits_of u) ≡ b
          → IsWide t (cond b (Some f) (cond (nat_lt (bits_of t) (bits_of u)) (Some (normal (part_of 0 (bits_of t) (bits f))))
          (cond (not (is_signed u) || int_le (pos 0) z) (form_of (extended (bits_of t) (bits f))) None)))
      same true e = h ∙ sym (eqb-true (bits_of t) (bits_of u) e)
      same false e = shorter (nat_lt (bits_of t) (bits_of u)) refl

-- ---- expressions

none_wide : (u : Option IntType) → IsWideIf u None
none_wide None = tt
none_wide (Some t) = tt

pair_wide : {N : Type 0} (m : Mode) (s : Side) (f : Side → SideValue N) (b : Bool) (u : Option IntType)
    → ((s : Side) → IsWideIf u (f s).form) → IsWideIf u (on (pair_on m f b) s).form
pair_wide Both left f b u h = h left
pair_wide Both right f b u h = h right
pair_wide Left left f b u h = h left
pair_wide Left right f b u h = none_wide u
pair_wide Right left f b u h = none_wide u
pair_wide Right right f b u h = h right

number_wide : {N : Type 0} (D : Ops N) (o : BinOp) (t : IntType) (v a : Option N) (f : Form) (b : Option N) (g : Form)
    (own : Option IntType) → IsWide t f → right_type o t own ≡ own → IsWideIf own g
    → IsWide t (form_if D v (form_of_numbers D o t f a g b))
number_wide D o t None a f b g own h e i = tt
number_wide D o t (Some v) None f b g own h e i = tt
number_wide D o t (Some v) (Some a) f None g own h e i = tt
number_wide D o t (Some v) (Some a) f (Some b) g own h e i = form_wide t o f (D.range a) g (D.range b) own h e i

convert_wide : {N : Type 0} (D : Ops N) (t : IntType) (u : Option IntType) (n : Option N) (f : Form) → IsWideIf u f
    → IsWide t (convert_form D u t n f)
convert_wide D t None n f h = tt
convert_wide D t (Some u) None f h = tt
convert_wide D t (Some u) (Some n) None h = tt
convert_wide D t (Some u) (Some n) (Some f) h = converted_wide t u (D.range n).0 f h

module _ {N : Type 0} (D : Ops N) (laws : ReadLaws D) (sizes : List ℕ) (k : Known N) (cells : AreCells k.model k.cells) where
  reads_wide : (s : CellSide) (t : IntType) (qs : List Spot) → IsWide t (form_of_reads (reads_of D k s (Int t) qs))
  reads_wide s t [] = tt
  reads_wide s t (q ∷ []) = split (read D k s q.0 q.1 (Int t)).form (laws.fits k s q.0 q.1 (Int t) cells).form
    where
      split : (f : Form) → IfSome f (IsFormRead k.cells (Int t) (read D k s q.0 q.1 (Int t)).maybe) → IsWide t f
      split None h = tt
      split (Some f) h = sym h.wide
  reads_wide s t (q ∷ r ∷ qs) = tt

  formless_wide : (m : Mode) (s : Side) (f : Side → Option (Value N)) (b : Bool) (u : Option IntType)
      → IsWideIf u (on (pair_on m (λ s. formless D (f s)) b) s).form
  formless_wide m s f b u = pair_wide m s (λ s. formless D (f s)) b u (λ s. none_wide u)

  -- in a state, the form of what an expression gives on a side is as wide as its type
  pub expr_wide : (e : Expr) → ExprIsFit e → (m : Mode) (s : Side)
      → IsWideIf (int_type_of e) (on ((expression D sizes e).gives m k).pair s).form
  expr_wide (const t v) h m s = pair_wide m s (λ s. record { value = Some (Num (D.single v)); form = constant_form t v }) true
      (Some t) (λ s. omega arith)
  expr_wide null_value h m s = tt
  expr_wide (load (Int t) a) h m s =
      pair_wide m s (λ s. load_side D sizes (Int t) k (on (place D sizes a m k).pair s) s) _ (Some t)
      (λ s. reads_wide (cells_of s) t (places_at D sizes (Int t) k (on (place D sizes a m k).pair s)))
  expr_wide (load Pointer a) h m s = tt
  expr_wide (addr_of a) h m s = tt
  expr_wide (binary o t a b) h m s =
      let x = (expression D sizes a).gives m k in
      let y = (expression D sizes b).gives m k in
      pair_wide m s (λ s. binary_side D o t (on x.pair s) (on y.pair s)) _ (Some t)
      (λ s. number_wide D o t (outcome D o t (on x.pair s) (on y.pair s)).value (number D (on x.pair s)) (on x.pair s).form
      (number D (on y.pair s)) (on y.pair s).form (int_type_of b)
      (subst (λ u. IsWideIf u (on x.pair s).form) h.2 (expr_wide a h.0 m s)) h.3 (expr_wide b h.1 m s))
  expr_wide (convert t e) h m s =
      let x = (expression D sizes e).gives m k in
      pair_wide m s (λ s. convert_side D (int_type_of e) t (on x.pair s)) _ (Some t)
      (λ s. convert_wide D t (int_type_of e) (number D (on x.pair s)) (on x.pair s).form (expr_wide e h m s))
  expr_wide (compare c t a b) h m s = pair_wide m s _ _ (Some I32) (λ s. tt)
  expr_wide (ptr_compare c a b) h m s = pair_wide m s _ _ (Some I32) (λ s. tt)
  expr_wide (logical_and a b) h m s = pair_wide m s _ _ (Some I32) (λ s. tt)
  expr_wide (logical_or a b) h m s = pair_wide m s _ _ (Some I32) (λ s. tt)
  expr_wide (logical_not e) h m s = pair_wide m s _ _ (Some I32) (λ s. tt)
  expr_wide (conditional e a b) h m s = pair_wide m s _ _ (int_type_of a) (λ s. none_wide (int_type_of a))
  expr_wide (ptr_add e unit n back) h m s = tt
  expr_wide (cast e) h m s = tt
