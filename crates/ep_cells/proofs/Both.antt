-- Joins and widenings hold of the memories of both states, and inclusion is inclusion.
use Rattle.std.proofs.Common.{◌≡◌, ℕ, zero, suc, ◌^◌, ℤ, Bool, true, false, ◌&&◌, ◌||◌, not, nat_eq, cond, List, []}
use Rattle.ep_bitslice.proofs.Joining.{side_back}
use Rattle.ep_int.proofs.Basics.{implied}
use Rattle.std.proofs.Common.{◌∷◌, inl, Option, Some, None, IfSome, refl, sym, ◌∙◌, ap, subst, arith}
use Rattle.std.specs.Option.{option_map_or}
use Rattle.std.proofs.lemmas.Bool.{and_parts, or_left, or_right, or_from, eqb-true}
use Rattle.ep_int.specs.declared.types.Order.{Order}
use Rattle.ep_int.specs.declared.types.Model.{Model}
use Rattle.ep_int.specs.declared.types.IntType.TheVariants.{I8, U8, I16, U16, I32, U32, I64, U64}
use Rattle.ep_int.specs.declared.types.Scalar.{Scalar}
use Rattle.ep_int.specs.declared.types.Scalar.TheVariants.{Int, Pointer}
use Rattle.ep_int.specs.Types.{bits_of, residue, size_of}
use Rattle.ep_int.specs.Memory.{Memory, Value as Datum, int, null, pointer}
use Rattle.ep_bitslice.specs.declared.cell.Side.{Side}
use Rattle.ep_bitslice.specs.declared.cell.CellName.{CellName}
use Rattle.ep_bitslice.specs.declared.segment.Segment.{Segment}
use Rattle.ep_bitslice.specs.declared.segment.Segment.TheVariants.{Bits, Fixed}
use Rattle.ep_bitslice.specs.Bits.{side_number, is_same_cell as is_same_name}
use Rattle.ep_bitslice.specs.Segments.{number}
use Rattle.ep_bitslice.proofs.Joining.{same_cell, cell_at}
use Rattle.ep_domain.specs.Domain.{Ops, Lawful}
use Rattle.ep_domain.specs.Domain.{Holds as HoldsNumber}
use Rattle.ep_pointers.specs.Value.{Pointers, pointers, IsRising, together, HoldsBoth, null_pointer, into}
use Rattle.ep_pointers.proofs.Gathered.{pointer_laws}
use Rattle.ep_cells.specs.declared.cell.Cell.{Cell}
use Rattle.ep_cells.specs.declared.cell.Value.{Value}
use Rattle.ep_cells.specs.declared.cell.Value.TheVariants.{Num, Ptr}
use Rattle.ep_cells.specs.Cells.{on_left, on_right, scalar_number, is_same_scalar, is_same_side, is_same_place}
use Rattle.ep_cells.specs.Cells.{is_same_cell, IsIn, first, later, key_of}
use Rattle.ep_cells.specs.Forms.{is_same_segment, are_same_segments, have_same_form, common_form}
use Rattle.ep_cells.specs.States.{IsOfSort, HasRisingBlocks, IsThere, IsFormOf, HasForm, EachPair, AreApart, IsCell}
use Rattle.ep_cells.specs.States.{AreCells, AreAlike, HaveCellsAlike}
use Rattle.ep_cells.specs.Meaning.{Memories, Allows, HasBytes, StandsAt, Says, numbers_of, HasNumber, FormSays, In}
use Rattle.ep_cells.specs.Both.{value_of_both, cell_of_both, cells_of_both, is_value_within, is_form_kept}
use Rattle.ep_cells.specs.Both.{is_cell_within, cell_like, are_within}
use Rattle.ep_cells.proofs.Lists.{each_at, each_from}
use Rattle.ep_cells.proofs.Places.{Before, before_true, not_both}

-- ---- sameness

abbrev scalar_at : ℕ → Scalar
scalar_at zero = Int I8
scalar_at (suc zero) = Int U8
scalar_at (suc (suc zero)) = Int I16
scalar_at (suc (suc (suc zero))) = Int U16
scalar_at (suc (suc (suc (suc zero)))) = Int I32
scalar_at (suc (suc (suc (suc (suc zero))))) = Int U32
scalar_at (suc (suc (suc (suc (suc (suc zero)))))) = Int I64
scalar_at (suc (suc (suc (suc (suc (suc (suc zero))))))) = Int U64
scalar_at (suc (suc (suc (suc (suc (suc (suc (suc n)))))))) = Pointer

scalar_there : (w : Scalar) → scalar_at (scalar_number w) ≡ w
scalar_there (Int I8) = refl
scalar_there (Int U8) = refl
scalar_there (Int I16) = refl
scalar_there (Int U16) = refl
scalar_there (Int I32) = refl
scalar_there (Int U32) = refl
scalar_there (Int I64) = refl
scalar_there (Int U64) = refl
scalar_there Pointer = refl

pub scalar_same : (v w : Scalar) → is_same_scalar v w ≡ true → v ≡ w
scalar_same v w h =
    sym (scalar_there v) ∙ ap scalar_at (eqb-true (scalar_number v) (scalar_number w) h) ∙ scalar_there w

pub alike_same : {N : Type 0} (x y : Cell N) → is_same_cell x y ≡ true → AreAlike x y
alike_same x y h =
    let p = and_parts (is_same_side x.side y.side) (is_same_place x y) h in
    let q = and_parts (nat_eq x.block y.block) (nat_eq x.offset y.offset && is_same_scalar x.what y.what) p.1 in
    let r = and_parts (nat_eq x.offset y.offset) (is_same_scalar x.what y.what) q.1 in
    record {
      side = side_back x.side y.side (eqb-true (side_number x.side) (side_number y.side) p.0);
      block = eqb-true x.block y.block q.0;
      offset = eqb-true x.offset y.offset r.0;
      what = scalar_same x.what y.what r.1;
    }

segment_same : (s t : Segment) → is_same_segment s t ≡ true → s ≡ t
segment_same (Bits c f t) (Bits d g u) h =
    let p = and_parts (is_same_name c d) (nat_eq f g && nat_eq t u) h in
    let q = and_parts (nat_eq f g) (nat_eq t u) p.1 in
    let e : c ≡ d = same_cell c d p.0 in
    let i : f ≡ g = eqb-true f g q.0 in
    let j : t ≡ u = eqb-true t u q.1 in
    cc
segment_same (Bits c f t) (Fixed v w) h = absurd (cc)
segment_same (Fixed v w) (Bits d g u) h = absurd (cc)
segment_same (Fixed v w) (Fixed x y) h =
    let p = and_parts (nat_eq v x) (nat_eq w y) h in
    let i : v ≡ x = eqb-true v x p.0 in
    let j : w ≡ y = eqb-true w y p.1 in
    cc

pub segments_same : (ss ts : List Segment) → are_same_segments ss ts ≡ true → ss ≡ ts
segments_same [] [] h = refl
segments_same [] (t ∷ ts) h = absurd (cc)
segments_same (s ∷ ss) [] h = absurd (cc)
segments_same (s ∷ ss) (t ∷ ts) h =
    let p = and_parts (is_same_segment s t) (are_same_segments ss ts) h in
    let i : s ≡ t = segment_same s t p.0 in
    let j : ss ≡ ts = segments_same ss ts p.1 in
    cc

-- both have this form
pub record BothHave (f g : Option (List Segment)) (ss : List Segment) : Type 0 where
  pub left : f ≡ Some ss
  pub right : g ≡ Some ss

pub same_forms : (f g : Option (List Segment)) (ss : List Segment) → f ≡ Some ss → have_same_form f g ≡ true
    → BothHave f g ss
same_forms None g ss e h = absurd (cc)
same_forms (Some a) None ss e h = absurd (cc)
same_forms (Some a) (Some b) ss e h =
    let i : a ≡ b = segments_same a b h in
    let j : a ≡ ss = cc in
    record { left = e; right = ap Some (sym i ∙ j) }

common_by : (f g : Option (List Segment)) (ss : List Segment) (b : Bool) → have_same_form f g ≡ b
    → cond b f None ≡ Some ss → BothHave f g ss
common_by f g ss true h e = same_forms f g ss e h
common_by f g ss false h e = absurd (cc)

pub common_is : (f g : Option (List Segment)) (ss : List Segment) → common_form f g ≡ Some ss → BothHave f g ss
common_is f g ss e = common_by f g ss (have_same_form f g) refl e

-- ---- one cell of a place

pub data OneOrder {N : Type 0} (R : Cell N → Cell N → Type 0) (x y : Cell N) : Type 0 where
  one : x ≡ y → OneOrder R x y
  left_first : R x y → OneOrder R x y
  right_first : R y x → OneOrder R x y

pub one_order : {N : Type 0} (R : Cell N → Cell N → Type 0) (x y : Cell N) (cs : List (Cell N)) → EachPair R cs
    → IsIn x cs → IsIn y cs → OneOrder R x y
one_order R x y [] p h k = elim h [ ]
one_order R _ _ (_ ∷ cs) p (first _) (first _) = one refl
one_order R x y (z ∷ cs) p (first _) (later _ _ k) = left_first (each_at (R z) y cs p.0 k)
one_order R x y (z ∷ cs) p (later _ _ h) (first _) = right_first (each_at (R z) x cs p.0 h)
one_order R x y (z ∷ cs) p (later _ _ h) (later _ _ k) = one_order R x y cs p.1 h k

key_alike : {N : Type 0} (x y : Cell N) → AreAlike x y → key_of x ≡ key_of y
key_alike x y a = let e : side_number x.side ≡ side_number y.side = ap side_number a.side in omega (arith, a.offset)

not_before : {N : Type 0} (d : Model) (x y : Cell N) → AreAlike x y → AreApart d x y → ⊥
not_before d x y a h =
    let b = before_true x.block (key_of x) y.block (key_of y) h.ordered in
    not_both x.block (key_of x) y.block (key_of y) b
    (subst (λ k. Before y.block (key_of y) k (key_of x)) (sym a.block) (subst (λ k. Before k (key_of y) y.block
    (key_of x)) a.block
    (subst (λ k. Before x.block k y.block (key_of x)) (key_alike x y a) (subst (λ k. Before x.block (key_of x)
    y.block k) (sym (key_alike x y a)) b))))

pub alike_sym : {N : Type 0} (x y : Cell N) → AreAlike x y → AreAlike y x
alike_sym x y a = record { side = sym a.side; block = sym a.block; offset = sym a.offset; what = sym a.what }

pub only_one : {N : Type 0} (d : Model) (x y : Cell N) (cs : List (Cell N)) → EachPair (AreApart d) cs → IsIn x cs
    → IsIn y cs → AreAlike x y → x ≡ y
only_one d x y cs p h k a =
    elim (one_order (AreApart d) x y cs p h k) [
      | one e ↦ e
      | left_first r ↦ absurd (not_before d x y a r)
      | right_first r ↦ absurd (not_before d y x (alike_sym x y a) r)
    ]

-- ---- values

-- f holds what both of its operands hold
pub record Unites {N : Type 0} (D : Ops N) (f : N → N → N) : Type 0 where
  pub left : (a b : N) (z : ℤ) → HoldsNumber D a z → HoldsNumber D (f a b) z
  pub right : (a b : N) (z : ℤ) → HoldsNumber D b z → HoldsNumber D (f a b) z
  pub both : (p q : Pointers N) → IsRising p.targets → IsRising q.targets
      → HoldsBoth D p q (pointers (p.null || q.null) (together f p.targets q.targets))
  pub rises : (p q : Pointers N) → IsRising p.targets → IsRising (together f p.targets q.targets)

pub join_unites : {N : Type 0} (D : Ops N) → Lawful D → Unites D D.join
join_unites D law =
    let laws = pointer_laws D law in
    record { left = law.join_left; right = law.join_right; both = laws.join_holds; rises = laws.join_rises }

pub widen_unites : {N : Type 0} (D : Ops N) → Lawful D → Unites D D.widen
widen_unites D law =
    let laws = pointer_laws D law in
    record { left = law.widen_left; right = law.widen_right; both = laws.widening_holds; rises = laws.widening_rises }

pub sort_both : {N : Type 0} (f : N → N → N) (w : Scalar) (u v : Option (Value N)) → IsOfSort w u → IsOfSort w v
    → IsOfSort w (value_of_both f u v)
sort_both f w None v h k = k
sort_both f w (Some u) None h k = h
sort_both f (Int t) (Some (Num a)) (Some (Num b)) h k = tt
sort_both f (Int t) (Some (Num a)) (Some (Ptr q)) h k = absurd k
sort_both f (Int t) (Some (Ptr p)) (Some v) h k = absurd h
sort_both f Pointer (Some (Num a)) (Some v) h k = absurd h
sort_both f Pointer (Some (Ptr p)) (Some (Num b)) h k = absurd k
sort_both f Pointer (Some (Ptr p)) (Some (Ptr q)) h k = tt

pub rising_both : {N : Type 0} (D : Ops N) (f : N → N → N) → Unites D f → (u v : Option (Value N))
    → HasRisingBlocks u → HasRisingBlocks v → HasRisingBlocks (value_of_both f u v)
rising_both D f un None v h k = k
rising_both D f un (Some u) None h k = h
rising_both D f un (Some (Num a)) (Some (Num b)) h k = tt
rising_both D f un (Some (Num a)) (Some (Ptr q)) h k = tt
rising_both D f un (Some (Ptr p)) (Some (Num b)) h k = h
rising_both D f un (Some (Ptr p)) (Some (Ptr q)) h k = un.rises p q h

pub undefined_both : {N : Type 0} (f : N → N → N) (u v : Option (Value N)) (a b : Bool) → (u ≡ None → a ≡ true)
    → value_of_both f u v ≡ None → (a || b) ≡ true
undefined_both f None v a b h e = or_left a b (h refl)
undefined_both f (Some u) None a b h e = absurd (cc)
undefined_both f (Some (Num x)) (Some (Num y)) a b h e = absurd (cc)
undefined_both f (Some (Num x)) (Some (Ptr y)) a b h e = absurd (cc)
undefined_both f (Some (Ptr x)) (Some (Num y)) a b h e = absurd (cc)
undefined_both f (Some (Ptr x)) (Some (Ptr y)) a b h e = absurd (cc)

-- what the first allows
pub allowed_left : {N : Type 0} (D : Ops N) (f : N → N → N) → Unites D f
    → (w : Scalar) (u v : Option (Value N)) (a b : Bool) (z : Option Datum)
    → IsOfSort w u → IsOfSort w v → HasRisingBlocks u → HasRisingBlocks v → (u ≡ None → a ≡ true)
    → Allows D w u a z → Allows D w (value_of_both f u v) (a || b) z
allowed_left D f un w None None a b z su sv ru rv h k = k
allowed_left D f un w None (Some v) a b None su sv ru rv h k = or_left a b (h refl)
allowed_left D f un w None (Some v) a b (Some z) su sv ru rv h k = absurd (cc)
allowed_left D f un w (Some u) None a b None su sv ru rv h k = or_left a b k
allowed_left D f un (Int t) (Some (Num x)) None a b (Some (int z)) su sv ru rv h k = k
allowed_left D f un (Int t) (Some (Num x)) None a b (Some null) su sv ru rv h k = k
allowed_left D f un (Int t) (Some (Num x)) None a b (Some (pointer c q)) su sv ru rv h k = k
allowed_left D f un (Int t) (Some (Ptr x)) None a b (Some z) su sv ru rv h k = absurd su
allowed_left D f un Pointer (Some (Num x)) None a b (Some z) su sv ru rv h k = absurd su
allowed_left D f un Pointer (Some (Ptr x)) None a b (Some (int z)) su sv ru rv h k = k
allowed_left D f un Pointer (Some (Ptr x)) None a b (Some null) su sv ru rv h k = k
allowed_left D f un Pointer (Some (Ptr x)) None a b (Some (pointer c q)) su sv ru rv h k = k
allowed_left D f un (Int t) (Some (Num x)) (Some (Num y)) a b None su sv ru rv h k = or_left a b k
allowed_left D f un (Int t) (Some (Num x)) (Some (Num y)) a b (Some (int z)) su sv ru rv h k = (
  k.0,
  un.left x y z
      k.1,
)
allowed_left D f un (Int t) (Some (Num x)) (Some (Num y)) a b (Some null) su sv ru rv h k = k
allowed_left D f un (Int t) (Some (Num x)) (Some (Num y)) a b (Some (pointer c q)) su sv ru rv h k = k
allowed_left D f un (Int t) (Some (Num x)) (Some (Ptr y)) a b z su sv ru rv h k = absurd sv
allowed_left D f un (Int t) (Some (Ptr x)) (Some y) a b z su sv ru rv h k = absurd su
allowed_left D f un Pointer (Some (Num x)) (Some y) a b z su sv ru rv h k = absurd su
allowed_left D f un Pointer (Some (Ptr x)) (Some (Num y)) a b z su sv ru rv h k = absurd sv
allowed_left D f un Pointer (Some (Ptr x)) (Some (Ptr y)) a b None su sv ru rv h k = or_left a b k
allowed_left D f un Pointer (Some (Ptr x)) (Some (Ptr y)) a b (Some (int z)) su sv ru rv h k = k
allowed_left D f un Pointer (Some (Ptr x)) (Some (Ptr y)) a b (Some null) su sv ru rv h k = (un.both x y ru rv).left
    null_pointer k
allowed_left D f un Pointer (Some (Ptr x)) (Some (Ptr y)) a b (Some (pointer c q)) su sv ru rv h k = (un.both x y ru
    rv).left (into c q) k

-- and what the second allows
pub allowed_right : {N : Type 0} (D : Ops N) (f : N → N → N) → Unites D f
    → (w : Scalar) (u v : Option (Value N)) (a b : Bool) (z : Option Datum)
    → IsOfSort w u → IsOfSort w v → HasRisingBlocks u → HasRisingBlocks v → (v ≡ None → b ≡ true)
    → Allows D w v b z → Allows D w (value_of_both f u v) (a || b) z
allowed_right D f un w None None a b z su sv ru rv h k = k
allowed_right D f un w None (Some v) a b None su sv ru rv h k = or_right a b k
allowed_right D f un (Int t) None (Some (Num x)) a b (Some (int z)) su sv ru rv h k = k
allowed_right D f un (Int t) None (Some (Num x)) a b (Some null) su sv ru rv h k = k
allowed_right D f un (Int t) None (Some (Num x)) a b (Some (pointer c q)) su sv ru rv h k = k
allowed_right D f un (Int t) None (Some (Ptr x)) a b (Some z) su sv ru rv h k = absurd sv
allowed_right D f un Pointer None (Some (Num x)) a b (Some z) su sv ru rv h k = absurd sv
allowed_right D f un Pointer None (Some (Ptr x)) a b (Some (int z)) su sv ru rv h k = k
allowed_right D f un Pointer None (Some (Ptr x)) a b (Some null) su sv ru rv h k = k
allowed_right D f un Pointer None (Some (Ptr x)) a b (Some (pointer c q)) su sv ru rv h k = k
allowed_right D f un w (Some u) None a b None su sv ru rv h k = or_right a b (h refl)
allowed_right D f un w (Some u) None a b (Some z) su sv ru rv h k = absurd (cc)
allowed_right D f un (Int t) (Some (Num x)) (Some (Num y)) a b None su sv ru rv h k = or_right a b k
allowed_right D f un (Int t) (Some (Num x)) (Some (Num y)) a b (Some (int z)) su sv ru rv h k = (
  k.0,
  un.right x y z
      k.1,
)
allowed_right D f un (Int t) (Some (Num x)) (Some (Num y)) a b (Some null) su sv ru rv h k = k
allowed_right D f un (Int t) (Some (Num x)) (Some (Num y)) a b (Some (pointer c q)) su sv ru rv h k = k
allowed_right D f un (Int t) (Some (Num x)) (Some (Ptr y)) a b z su sv ru rv h k = absurd sv
allowed_right D f un (Int t) (Some (Ptr x)) (Some y) a b z su sv ru rv h k = absurd su
allowed_right D f un Pointer (Some (Num x)) (Some y) a b z su sv ru rv h k = absurd su
allowed_right D f un Pointer (Some (Ptr x)) (Some (Num y)) a b z su sv ru rv h k = absurd sv
allowed_right D f un Pointer (Some (Ptr x)) (Some (Ptr y)) a b None su sv ru rv h k = or_right a b k
allowed_right D f un Pointer (Some (Ptr x)) (Some (Ptr y)) a b (Some (int z)) su sv ru rv h k = k
allowed_right D f un Pointer (Some (Ptr x)) (Some (Ptr y)) a b (Some null) su sv ru rv h k = (un.both x y ru
    rv).right null_pointer k
allowed_right D f un Pointer (Some (Ptr x)) (Some (Ptr y)) a b (Some (pointer c q)) su sv ru rv h k = (un.both x y ru
    rv).right (into c q) k

-- ---- bytes of a cell that may be undefined as well

pub bytes_weaker : (o : Order) (m : Memory) (n : ℕ) (w : Scalar) (a b : Bool) (c q : ℕ) (v : Option Datum)
    → (a ≡ true → b ≡ true)
    → HasBytes o m n w a c q v → HasBytes o m n w b c q v
bytes_weaker o m n w a b c q None i h = h
bytes_weaker o m n w false false c q (Some v) i h = h
bytes_weaker o m n (Int t) false true c q (Some v) i h = λ p l. inl (h p l)
bytes_weaker o m n Pointer false true c q (Some v) i h = inl h
bytes_weaker o m n w true false c q (Some v) i h = absurd (let e : false ≡ true = i refl in cc)
bytes_weaker o m n w true true c q (Some v) i h = h

bytes_alike : {N : Type 0} (o : Order) (d : Model) (n : Memory) (x y : Cell N) (v : Option Datum) → AreAlike x y
    → (x.maybe ≡ true → y.maybe ≡ true)
    → HasBytes o n (size_of d x.what) x.what x.maybe x.block x.offset v → HasBytes o n (size_of d y.what) y.what
    y.maybe y.block y.offset v
bytes_alike o d n x y v a i k =
    bytes_weaker o n (size_of d y.what) y.what x.maybe y.maybe y.block y.offset v i
    (subst (λ (q : ℕ). HasBytes o n (size_of d y.what) y.what x.maybe y.block q v) a.offset
    (subst (λ (b : ℕ). HasBytes o n (size_of d y.what) y.what x.maybe b x.offset v) a.block
    (subst (λ (w : Scalar). HasBytes o n (size_of d w) w x.maybe x.block x.offset v) a.what k)))

-- the same datum stands at a cell of the same side, place and type
pub stands_alike : {N : Type 0} (os : Order × Order) (d : Model) (m : Memories) (x y : Cell N) (v : Option Datum)
    → AreAlike x y → (x.maybe ≡ true → y.maybe ≡ true)
    → StandsAt os d m x v → StandsAt os d m y v
stands_alike os d m x y v a i h = record {
  left = λ e. bytes_alike os.0 d m.left x y v a i (h.left (subst (λ (s : Side). on_left s ≡ true) (sym a.side) e));
  right = λ e. bytes_alike os.1 d m.right x y v a i (h.right (subst (λ (s : Side). on_right s ≡ true) (sym a.side)
      e));
}

-- ---- lists of both

-- z is made of a cell of each
pub record IsOfBoth {N : Type 0} (f : N → N → N) (xs ys : List (Cell N)) (z : Cell N) : Type 0 where
  pub left : Cell N
  pub right : Cell N
  pub in_left : IsIn left xs
  pub in_right : IsIn right ys
  pub alike : AreAlike left right
  pub is : z ≡ cell_of_both f left right

pub in_both : {N : Type 0} (f : N → N → N) (xs ys : List (Cell N)) (z : Cell N) → HaveCellsAlike xs ys
    → IsIn z (cells_of_both f xs ys) → IsOfBoth f xs ys z
in_both f [] ys z a h = elim h [ ]
in_both f (x ∷ xs) [] z a h = elim h [ ]
in_both f (x ∷ xs) (y ∷ ys) _ a (first _) = record {
  left = x;
  right = y;
  in_left = first xs;
  in_right = first ys;
  alike = a.0;
  is = refl;
}
in_both f (x ∷ xs) (y ∷ ys) z a (later _ _ h) =
    let r = in_both f xs ys z a.1 h in
    record {
      left = r.left;
      right = r.right;
      in_left = later x xs r.in_left;
      in_right = later y ys r.in_right;
      alike
          = r.alike;
      is = r.is;
    }

-- the cell of the other state, and what both make
pub record HasPartner {N : Type 0} (f : N → N → N) (ys zs : List (Cell N)) (x : Cell N) : Type 0 where
  pub right : Cell N
  pub in_right : IsIn right ys
  pub alike : AreAlike x right
  pub made : IsIn (cell_of_both f x right) zs

pub both_in : {N : Type 0} (f : N → N → N) (xs ys : List (Cell N)) (x : Cell N) → HaveCellsAlike xs ys → IsIn x xs
    → HasPartner f ys (cells_of_both f xs ys) x
both_in f [] ys x a h = elim h [ ]
both_in f (z ∷ xs) [] x a h = absurd a
both_in f (_ ∷ xs) (y ∷ ys) x a (first _) = record {
  right = y;
  in_right = first ys;
  alike = a.0;
  made = first
      (cells_of_both f xs ys);
}
both_in f (z ∷ xs) (y ∷ ys) x a (later _ _ h) =
    let r = both_in f xs ys x a.1 h in
    record {
      right = r.right;
      in_right = later y ys r.in_right;
      alike = r.alike;
      made = later (cell_of_both f z y)
          (cells_of_both f xs ys) r.made;
    }

both_pairs : {N : Type 0} (f : N → N → N) (d : Model) (xs ys : List (Cell N)) → HaveCellsAlike xs ys
    → EachPair (AreApart d) xs → EachPair (AreApart d) (cells_of_both f xs ys)
both_pairs f d [] ys a p = tt
both_pairs f d (x ∷ xs) [] a p = tt
both_pairs f d (x ∷ xs) (y ∷ ys) a p = (
  each_from (AreApart d (cell_of_both f x y)) (cells_of_both f xs ys)
      (λ z k.
      let r = in_both f xs ys z a.1 k in
      let q = each_at (AreApart d x) r.left xs p.0 r.in_left in
      subst (AreApart d (cell_of_both f x y)) (sym r.is) (let s : AreApart d (cell_of_both f x y) (cell_of_both f
      r.left r.right) = record { ordered = q.ordered; apart = q.apart } in s)),
  both_pairs f d xs ys a.1 p.1,
)

both_there : {N : Type 0} (f : N → N → N) (d : Model) (xs ys : List (Cell N)) (n : CellName) → HaveCellsAlike xs ys
    → EachPair (AreApart d) ys
    → IsThere n xs → IsThere n ys → IsThere n (cells_of_both f xs ys)
both_there f d xs ys n a p t u =
    let r = both_in f xs ys t.cell a t.is_in in
    let like : AreAlike u.cell r.right = record {
      side = u.named.side ∙ sym t.named.side ∙ r.alike.side;
      block = u.named.block ∙ sym t.named.block ∙ r.alike.block;
      offset = u.named.offset ∙ sym t.named.offset ∙ r.alike.offset;
      what = u.named.what ∙ sym t.named.what ∙ r.alike.what;
    } in
    let same = only_one d u.cell r.right ys p u.is_in r.in_right like in
    let sure : r.right.maybe ≡ false = subst (λ z. z.maybe ≡ false) same u.sure in
    record {
      cell = cell_of_both f t.cell r.right;
      is_in = r.made;
      named = record { side = t.named.side; block = t.named.block; offset = t.named.offset; what = t.named.what };
      sure = or_from t.cell.maybe r.right.maybe t.sure sure;
    }

pub form_at : {N : Type 0} (cs : List (Cell N)) (x : Cell N) (ss : List Segment) → HasForm cs x → x.form ≡ Some ss
    → IsFormOf cs x ss
form_at cs x ss h e = subst (λ o. IfSome o (IsFormOf cs x)) e h

both_form : {N : Type 0} (f : N → N → N) (d : Model) (xs ys : List (Cell N)) (x y : Cell N) → HaveCellsAlike xs ys
    → EachPair (AreApart d) ys
    → HasForm xs x → HasForm ys y
    → (o : Option (List Segment)) → common_form x.form y.form ≡ o → IfSome o (IsFormOf (cells_of_both f xs ys)
    (cell_of_both f x y))
both_form f d xs ys x y a p h k None e = tt
both_form f d xs ys x y a p h k (Some ss) e =
    let b = common_is x.form y.form ss e in
    let l = form_at xs x ss h b.left in
    let r = form_at ys y ss k b.right in
    record {
      sure = or_from x.maybe y.maybe l.sure r.sure;
      wide = l.wide;
      form = l.form;
      mentioned = λ n i. both_there f d xs ys n a p (l.mentioned n i) (r.mentioned n i);
    }

pub both_cells : {N : Type 0} (D : Ops N) (f : N → N → N) → Unites D f → (d : Model) (xs ys : List (Cell N))
    → AreCells d xs → AreCells d ys → HaveCellsAlike xs ys → AreCells d (cells_of_both f xs ys)
both_cells D f un d xs ys p q a = record {
  each = λ z h.
      let r = in_both f xs ys z a h in
      let l = p.each r.left r.in_left in
      let k = q.each r.right r.in_right in
      subst (IsCell d) (sym r.is)
      (let s : IsCell d (cell_of_both f r.left r.right) = record {
        fits = record {
          sort = sort_both f r.left.what r.left.value r.right.value l.fits.sort (subst (λ (w : Scalar). IsOfSort w
              r.right.value) (sym r.alike.what) k.fits.sort);
          undefined = undefined_both f r.left.value r.right.value r.left.maybe r.right.maybe l.fits.undefined;
          last = l.fits.last;
        };
        rising = rising_both D f un r.left.value r.right.value l.rising k.rising;
      } in s);
  pairs = both_pairs f d xs ys a p.pairs;
  forms = λ z h.
      let r = in_both f xs ys z a h in
      subst (HasForm (cells_of_both f xs ys)) (sym r.is)
      (both_form f d xs ys r.left r.right a q.pairs (p.forms r.left r.in_left) (q.forms r.right r.in_right)
      (common_form r.left.form r.right.form) refl);
}

-- ---- that they hold

-- a form's number is that of another cell of the same side, place and type
number_alike : {N : Type 0} (os : Order × Order) (m : Memories) (x y : Cell N) (w : Scalar) (k : ℕ) → AreAlike x y
    → HasNumber os m x w k → HasNumber os m y w k
number_alike os m x y (Int t) k a h =
    ap (residue (2 ^ bits_of t)) (ap (numbers_of os m)
    (ap (λ (s : Side). cell_at s y.block y.offset t) (sym a.side)
    ∙ ap (λ (b : ℕ). cell_at x.side b y.offset t) (sym a.block)
    ∙ ap (λ (q : ℕ). cell_at x.side x.block q t) (sym a.offset))) ∙ h
number_alike os m x y Pointer k a h = h

pub form_says_alike : {N : Type 0} (os : Order × Order) (m : Memories) (x y : Cell N) (ss : List Segment)
    → AreAlike x y → FormSays os m x ss → FormSays os m y ss
form_says_alike os m x y ss a h =
    number_alike os m x y y.what (number (numbers_of os m) ss) a
    (subst (λ (w : Scalar). HasNumber os m x w (number (numbers_of os m) ss)) a.what h)

left_form : {N : Type 0} (f : N → N → N) (os : Order × Order) (m : Memories) (x y : Cell N)
    → IfSome x.form (FormSays os m x)
    → (o : Option (List Segment)) → common_form x.form y.form ≡ o → IfSome o (FormSays os m (cell_of_both f x y))
left_form f os m x y h None e = tt
left_form f os m x y h (Some ss) e =
    let b = common_is x.form y.form ss e in
    form_says_alike os m x (cell_of_both f x y) ss (record { side = refl; block = refl; offset = refl; what = refl })
    (subst (λ o. IfSome o (FormSays os m x)) b.left h)

right_form : {N : Type 0} (f : N → N → N) (os : Order × Order) (m : Memories) (x y : Cell N) → AreAlike x y
    → IfSome y.form (FormSays os m y)
    → (o : Option (List Segment)) → common_form x.form y.form ≡ o → IfSome o (FormSays os m (cell_of_both f x y))
right_form f os m x y a h None e = tt
right_form f os m x y a h (Some ss) e =
    let b = common_is x.form y.form ss e in
    form_says_alike os m y (cell_of_both f x y) ss (record {
      side = sym a.side;
      block = sym a.block;
      offset = sym
          a.offset;
      what = sym a.what;
    })
    (subst (λ o. IfSome o (FormSays os m y)) b.right h)

left_says : {N : Type 0} (D : Ops N) (f : N → N → N) → Unites D f
    → (os : Order × Order) (d : Model) (m : Memories) (x y : Cell N) → IsCell d x → IsCell d y → AreAlike x y
    → Says D os d m x → Says D os d m (cell_of_both f x y)
left_says D f un os d m x y p q a s = record {
  datum = s.datum;
  allowed = allowed_left D f un x.what x.value y.value x.maybe y.maybe s.datum p.fits.sort (subst (λ (w : Scalar).
      IsOfSort w y.value) (sym a.what) q.fits.sort) p.rising q.rising p.fits.undefined s.allowed;
  stands = stands_alike os d m x (cell_of_both f x y) s.datum (record {
    side = refl;
    block = refl;
    offset = refl;
    what = refl;
  }) (λ e. or_left x.maybe y.maybe e) s.stands;
}

right_says : {N : Type 0} (D : Ops N) (f : N → N → N) → Unites D f
    → (os : Order × Order) (d : Model) (m : Memories) (x y : Cell N) → IsCell d x → IsCell d y → AreAlike x y
    → Says D os d m y → Says D os d m (cell_of_both f x y)
right_says D f un os d m x y p q a s = record {
  datum = s.datum;
  allowed = allowed_right D f un x.what x.value y.value x.maybe y.maybe s.datum p.fits.sort (subst (λ (w : Scalar).
      IsOfSort w y.value) (sym a.what) q.fits.sort) p.rising q.rising q.fits.undefined
      (subst (λ (w : Scalar). Allows D w y.value y.maybe s.datum) (sym a.what) s.allowed);
  stands = stands_alike os d m y (cell_of_both f x y) s.datum (record {
    side = sym a.side;
    block = sym a.block;
    offset = sym a.offset;
    what = sym a.what;
  }) (λ e. or_right x.maybe y.maybe e) s.stands;
}

pub both_left : {N : Type 0} (D : Ops N) (f : N → N → N) → Unites D f
    → (os : Order × Order) (d : Model) (m : Memories) (xs ys : List (Cell N)) → AreCells d xs → AreCells d ys
    → HaveCellsAlike xs ys
    → In D (record { orders = os; model = d; cells = xs }) m → In D (record {
      orders = os;
      model = d;
      cells =
          cells_of_both f xs ys;
    }) m
both_left D f un os d m xs ys p q a i = record {
  cells = λ z h.
      let r = in_both f xs ys z a h in
      subst (Says D os d m) (sym r.is) (left_says D f un os d m r.left r.right (p.each r.left r.in_left) (q.each
      r.right r.in_right) r.alike (i.cells r.left r.in_left));
  forms = λ z h.
      let r = in_both f xs ys z a h in
      subst (λ c. IfSome c.form (FormSays os m c)) (sym r.is) (left_form f os m r.left r.right (i.forms r.left
      r.in_left) (common_form r.left.form r.right.form) refl);
}

pub both_right : {N : Type 0} (D : Ops N) (f : N → N → N) → Unites D f
    → (os : Order × Order) (d : Model) (m : Memories) (xs ys : List (Cell N)) → AreCells d xs → AreCells d ys
    → HaveCellsAlike xs ys
    → In D (record { orders = os; model = d; cells = ys }) m → In D (record {
      orders = os;
      model = d;
      cells =
          cells_of_both f xs ys;
    }) m
both_right D f un os d m xs ys p q a i = record {
  cells = λ z h.
      let r = in_both f xs ys z a h in
      subst (Says D os d m) (sym r.is) (right_says D f un os d m r.left r.right (p.each r.left r.in_left) (q.each
      r.right r.in_right) r.alike (i.cells r.right r.in_right));
  forms = λ z h.
      let r = in_both f xs ys z a h in
      subst (λ c. IfSome c.form (FormSays os m c)) (sym r.is) (right_form f os m r.left r.right r.alike (i.forms
      r.right r.in_right) (common_form r.left.form r.right.form) refl);
}

-- ---- inclusion

-- the cell of the first state
record Found {N : Type 0} (D : Ops N) (xs : List (Cell N)) (y : Cell N) : Type 0 where
  cell : Cell N
  is_in : IsIn cell xs
  alike : AreAlike cell y
  is_within : is_cell_within D cell y ≡ true

found_by : {N : Type 0} (D : Ops N) (y x : Cell N) (xs : List (Cell N)) (b : Bool) → is_same_cell x y ≡ b
    → option_map_or (λ z. is_cell_within D z y) (cond b (Some x) (cell_like y xs)) false ≡ true
    → (option_map_or (λ z. is_cell_within D z y) (cell_like y xs) false ≡ true → Found D xs y) → Found D (x ∷ xs) y
found_by D y x xs true e h rest = record { cell = x; is_in = first xs; alike = alike_same x y e; is_within = h }
found_by D y x xs false e h rest =
    let r = rest h in record { cell = r.cell; is_in = later x xs r.is_in; alike = r.alike; is_within = r.is_within }

found : {N : Type 0} (D : Ops N) (y : Cell N) (xs : List (Cell N))
    → option_map_or (λ z. is_cell_within D z y) (cell_like y xs) false ≡ true → Found D xs y
found D y [] h = absurd (cc)
found D y (x ∷ xs) h = found_by D y x xs (is_same_cell x y) refl h (λ k. found D y xs k)

all_found : {N : Type 0} (D : Ops N) (xs ys : List (Cell N)) (y : Cell N) → are_within D xs ys ≡ true → IsIn y ys
    → Found D xs y
all_found D xs [] y h k = elim k [ ]
all_found D xs (_ ∷ ys) y h (first _) = found D y xs (and_parts (option_map_or (λ x. is_cell_within D x y) (cell_like
    y xs) false) (are_within D xs ys) h).0
all_found D xs (z ∷ ys) y h (later _ _ k) = all_found D xs ys y (and_parts (option_map_or (λ x. is_cell_within D x z)
    (cell_like z xs) false) (are_within D xs ys) h).1 k

allowed_within : {N : Type 0} (D : Ops N) → Lawful D
    → (w : Scalar) (u v : Option (Value N)) (a b : Bool) (z : Option Datum)
    → (u ≡ None → a ≡ true) → (a ≡ true → b ≡ true) → is_value_within D u v ≡ true → Allows D w u a z → Allows D w v
    b z
allowed_within D law w None None a b z i j h k = k
allowed_within D law w None (Some v) a b None i j h k = j (i refl)
allowed_within D law w None (Some v) a b (Some z) i j h k = absurd (cc)
allowed_within D law w (Some u) None a b z i j h k = absurd (cc)
allowed_within D law w (Some (Num x)) (Some (Num y)) a b None i j h k = j k
allowed_within D law (Int t) (Some (Num x)) (Some (Num y)) a b (Some (int z)) i j h k = (
  k.0,
  law.within_holds x y z
      h k.1,
)
allowed_within D law (Int t) (Some (Num x)) (Some (Num y)) a b (Some null) i j h k = k
allowed_within D law (Int t) (Some (Num x)) (Some (Num y)) a b (Some (pointer c q)) i j h k = k
allowed_within D law Pointer (Some (Num x)) (Some (Num y)) a b (Some (int z)) i j h k = absurd k
allowed_within D law Pointer (Some (Num x)) (Some (Num y)) a b (Some null) i j h k = absurd k
allowed_within D law Pointer (Some (Num x)) (Some (Num y)) a b (Some (pointer c q)) i j h k = absurd k
allowed_within D law w (Some (Num x)) (Some (Ptr y)) a b z i j h k = absurd (cc)
allowed_within D law w (Some (Ptr x)) (Some (Num y)) a b z i j h k = absurd (cc)
allowed_within D law w (Some (Ptr x)) (Some (Ptr y)) a b None i j h k = j k
allowed_within D law Pointer (Some (Ptr x)) (Some (Ptr y)) a b (Some (int z)) i j h k = k
allowed_within D law Pointer (Some (Ptr x)) (Some (Ptr y)) a b (Some null) i j h k = (pointer_laws D
    law).within_holds x y h null_pointer k
allowed_within D law Pointer (Some (Ptr x)) (Some (Ptr y)) a b (Some (pointer c q)) i j h k = (pointer_laws D
    law).within_holds x y h (into c q) k
allowed_within D law (Int t) (Some (Ptr x)) (Some (Ptr y)) a b (Some (int z)) i j h k = absurd k
allowed_within D law (Int t) (Some (Ptr x)) (Some (Ptr y)) a b (Some null) i j h k = absurd k
allowed_within D law (Int t) (Some (Ptr x)) (Some (Ptr y)) a b (Some (pointer c q)) i j h k = absurd k

kept_by : {N : Type 0} (os : Order × Order) (m : Memories) (x y : Cell N) (ss : List Segment) (o : Option (List
    Segment)) → AreAlike x y → x.form ≡ o
    → have_same_form x.form (Some ss) ≡ true → IfSome x.form (FormSays os m x) → FormSays os m y ss
kept_by os m x y ss None a e h s = absurd (let k : have_same_form None (Some ss) ≡ true = subst (λ o. have_same_form
    o (Some ss) ≡ true) e h in cc)
kept_by os m x y ss (Some f) a e h s =
    let b = same_forms (Some f) (Some ss) f refl (subst (λ o. have_same_form o (Some ss) ≡ true) e h) in
    let same : f ≡ ss = let r : Some ss ≡ Some f = b.right in cc in
    form_says_alike os m x y ss a (subst (λ o. IfSome o (FormSays os m x)) (e ∙ ap Some same) s)

kept_form : {N : Type 0} (os : Order × Order) (m : Memories) (x y : Cell N) (g : Option (List Segment))
    → AreAlike x y → is_form_kept x.form g ≡ true
    → IfSome x.form (FormSays os m x) → IfSome g (FormSays os m y)
kept_form os m x y None a h s = tt
kept_form os m x y (Some ss) a h s = kept_by os m x y ss x.form a refl h s

pub within_in : {N : Type 0} (D : Ops N) → Lawful D
    → (os : Order × Order) (d : Model) (m : Memories) (xs ys : List (Cell N)) → AreCells d xs
    → are_within D xs ys ≡ true
    → In D (record { orders = os; model = d; cells = xs }) m → In D (record { orders = os; model = d; cells = ys }) m
within_in D law os d m xs ys p h i = record {
  cells = λ y k.
      let r = all_found D xs ys y h k in
      let c = and_parts (is_value_within D r.cell.value y.value) ((not r.cell.maybe || y.maybe) && is_form_kept
      r.cell.form y.form) r.is_within in
      let e = and_parts (not r.cell.maybe || y.maybe) (is_form_kept r.cell.form y.form) c.1 in
      let s = i.cells r.cell r.is_in in
      let maybe = implied r.cell.maybe y.maybe e.0 in
      record {
        datum = s.datum;
        allowed = allowed_within D law y.what r.cell.value y.value r.cell.maybe y.maybe s.datum (p.each r.cell
            r.is_in).fits.undefined maybe c.0
            (subst (λ (w : Scalar). Allows D w r.cell.value r.cell.maybe s.datum) r.alike.what s.allowed);
        stands = stands_alike os d m r.cell y s.datum r.alike maybe s.stands;
      };
  forms = λ y k.
      let r = all_found D xs ys y h k in
      let c = and_parts (is_value_within D r.cell.value y.value) ((not r.cell.maybe || y.maybe) && is_form_kept
      r.cell.form y.form) r.is_within in
      let e = and_parts (not r.cell.maybe || y.maybe) (is_form_kept r.cell.form y.form) c.1 in
      kept_form os m r.cell y y.form r.alike e.1 (i.forms r.cell r.is_in);
}
