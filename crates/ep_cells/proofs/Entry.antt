-- The cells of a block that is entered: they lie inside of it, and apart.
use Rattle.std.proofs.Common.{◌≡◌, ℕ, zero, suc, ◌+◌, ◌*◌, ◌<◌, ◌≤◌, Bool, true, false, ◌&&◌, nat_eq, nat_le, nat_lt}
use Rattle.ep_int.proofs.Basics.{size_positive}
use Rattle.std.proofs.Common.{cond, List, [], ◌∷◌, ⊎_elim, Option, Some, None, refl, sym, ◌∙◌, ap, subst, arith}
use Rattle.std.proofs.lemmas.Bool.{and_from, and_right, or_left, or_right, eqb-true, ne_eqb, le-leb, lt-ltb, le-ltb}
use Rattle.std.proofs.lemmas.Bool.{cases_lt, both_ways}
use Rattle.ep_int.specs.declared.types.Model.{Model}
use Rattle.ep_int.specs.declared.types.IntType.TheVariants.{U8}
use Rattle.ep_int.specs.declared.types.Scalar.{Scalar}
use Rattle.ep_int.specs.declared.types.Scalar.TheVariants.{Int}
use Rattle.ep_int.specs.Types.{size_of}
use Rattle.ep_layout.specs.declared.types.Leaf.{Leaf}
use Rattle.ep_bitslice.specs.declared.cell.Side.{Side}
use Rattle.ep_bitslice.specs.Bits.{side_number}
use Rattle.ep_cells.specs.declared.cell.Cell.{Cell}
use Rattle.ep_cells.specs.Cells.{share_memory, touches, IsIn, first, later}
use Rattle.ep_cells.specs.States.{EachPair, AreApart}
use Rattle.ep_cells.specs.Kill.{undefined_cell, leaf_at, is_in_leaf, cell_here, cells_from, AreLeavesIn}
use Rattle.ep_cells.proofs.Lists.{in_append, pairs_append}
use Rattle.ep_cells.proofs.Places.{at, before_from, in_block}

-- ---- the block's new cells

-- such a cell lies in what is left of the block
pub record IsNew {N : Type 0} (d : Model) (s : Side) (b e size : ℕ) (c : Cell N) : Type 0 where
  pub offset : ℕ
  pub what : Scalar
  pub is : c ≡ undefined_cell s b offset what
  pub low : e ≤ offset
  pub high : offset + size_of d what ≤ size

-- leaves end inside the size, past where they begin
pub leaves_end : (d : Model) (e size : ℕ) (leaves : List Leaf) → AreLeavesIn d e size leaves → e ≤ size
leaves_end d e size [] a = a
leaves_end d e size (l ∷ leaves) a = omega (arith, a.0, leaves_end d (l.offset + size_of d l.what) size leaves a.1)

-- a leaf at an offset ends inside the size
pub leaf_by : (d : Model) (e size q : ℕ) (l : Leaf) (leaves : List Leaf) (w : Scalar) (t : Bool)
    → nat_eq l.offset q ≡ t → AreLeavesIn d e size (l ∷ leaves)
    → (leaf_at leaves q ≡ Some w → q + size_of d w ≤ size) → cond t (Some l.what) (leaf_at leaves q) ≡ Some w → q +
    size_of d w ≤ size
leaf_by d e size q l leaves w true f a rest h =
    let same : l.offset ≡ q = eqb-true l.offset q f in
    let what : l.what ≡ w = cc in
    let end = leaves_end d (l.offset + size_of d l.what) size leaves a.1 in
    subst (λ (z : Scalar). q + size_of d z ≤ size) what (omega (arith, same, end))
leaf_by d e size q l leaves w false f a rest h = rest h

pub leaf_inside : (d : Model) (e size q : ℕ) (leaves : List Leaf) (w : Scalar) → AreLeavesIn d e size leaves
    → leaf_at leaves q ≡ Some w → q + size_of d w ≤ size
leaf_inside d e size q [] w a h = absurd (cc)
leaf_inside d e size q (l ∷ leaves) w a h =
    leaf_by d e size q l leaves w (nat_eq l.offset q) refl a (leaf_inside d (l.offset + size_of d l.what) size q
    leaves w a.1) h

-- an offset inside a leaf that begins before it is in no other leaf, and there no other leaf begins
record Inside (d : Model) (leaves : List Leaf) (q : ℕ) : Type 0 where
  none : leaf_at leaves q ≡ None
  inside : is_in_leaf d leaves q ≡ true

pub past_leaves : (d : Model) (e size q : ℕ) (leaves : List Leaf) → AreLeavesIn d e size leaves → q < e
    → leaf_at leaves q ≡ None
past_leaves d e size q [] a h = refl
past_leaves d e size q (l ∷ leaves) a h =
    let far : nat_eq l.offset q ≡ false = ne_eqb l.offset q (λ g. omega (arith, a.0)) in
    ap (λ t. cond t (Some l.what) (leaf_at leaves q)) far
    ∙ past_leaves d (l.offset + size_of d l.what) size q leaves a.1 (omega (arith, a.0))

begins_by : (d : Model) (e size q : ℕ) (l : Leaf) (leaves : List Leaf) (w : Scalar) (t : Bool)
    → nat_eq l.offset q ≡ t → AreLeavesIn d e size (l ∷ leaves)
    → (leaf_at leaves q ≡ Some w → l.offset + size_of d l.what ≤ q) → cond t (Some l.what) (leaf_at leaves q) ≡ Some
    w → e ≤ q
begins_by d e size q l leaves w true f a rest h = omega (arith, a.0, eqb-true l.offset q f)
begins_by d e size q l leaves w false f a rest h = omega (arith, a.0, rest h)

pub leaf_begins : (d : Model) (e size q : ℕ) (leaves : List Leaf) (w : Scalar) → AreLeavesIn d e size leaves
    → leaf_at leaves q ≡ Some w → e ≤ q
leaf_begins d e size q [] w a h = absurd (cc)
leaf_begins d e size q (l ∷ leaves) w a h =
    begins_by d e size q l leaves w (nat_eq l.offset q) refl a (leaf_begins d (l.offset + size_of d l.what) size q
    leaves w a.1) h

inside_by : (d : Model) (e size p q : ℕ) (l : Leaf) (leaves : List Leaf) (w : Scalar) (t : Bool)
    → nat_eq l.offset p ≡ t → AreLeavesIn d e size (l ∷ leaves)
    → p < q → q < p + size_of d w → (leaf_at leaves p ≡ Some w → Inside d leaves q) → cond t (Some l.what) (leaf_at
    leaves p) ≡ Some w → Inside d (l ∷ leaves) q
inside_by d e size p q l leaves w true f a lo hi rest h =
    let same : l.offset ≡ p = eqb-true l.offset p f in
    let what : l.what ≡ w = cc in
    let top : q < l.offset + size_of d l.what = subst (λ (z : Scalar). q < l.offset + size_of d z) (sym what) (omega
    (arith, same)) in
    let far : nat_eq l.offset q ≡ false = ne_eqb l.offset q (λ g. omega arith) in
    record {
      none = ap (λ t. cond t (Some l.what) (leaf_at leaves q)) far ∙ past_leaves d (l.offset + size_of d l.what) size
          q leaves a.1 top;
      inside = or_left (nat_le l.offset q && nat_lt q (l.offset + size_of d l.what)) (is_in_leaf d leaves q)
          (and_from (nat_le l.offset q) (nat_lt q (l.offset + size_of d l.what)) (le-leb l.offset q (omega arith))
          (lt-ltb q (l.offset + size_of d l.what) top));
    }
inside_by d e size p q l leaves w false f a lo hi rest h =
    let r = rest h in
    let begins = leaf_begins d (l.offset + size_of d l.what) size p leaves w a.1 h in
    let far : nat_eq l.offset q ≡ false = ne_eqb l.offset q (λ g. omega (arith, begins, size_positive d l.what)) in
    record {
      none = ap (λ t. cond t (Some l.what) (leaf_at leaves q)) far ∙ r.none;
      inside = or_right (nat_le l.offset q && nat_lt q (l.offset + size_of d l.what)) (is_in_leaf d leaves q)
          r.inside;
    }

in_leaf : (d : Model) (e size p q : ℕ) (leaves : List Leaf) (w : Scalar) → AreLeavesIn d e size leaves → p < q
    → q < p + size_of d w → leaf_at leaves p ≡ Some w → Inside d leaves q
in_leaf d e size p q [] w a lo hi h = absurd (cc)
in_leaf d e size p q (l ∷ leaves) w a lo hi h =
    inside_by d e size p q l leaves w (nat_eq l.offset p) refl a lo hi (in_leaf d (l.offset + size_of d l.what) size
    p q leaves w a.1 lo hi) h

-- the cells from an offset on, so many bytes
new_here : {N : Type 0} (d : Model) (s : Side) (b q n size : ℕ) (leaves : List Leaf) (c : Cell N) (o : Option Scalar)
    (t : Bool) → leaf_at leaves q ≡ o → AreLeavesIn d 0 size leaves
    → q + suc n ≤ size → IsIn c (cell_here s b q o t) → IsNew d s b q size c
new_here d s b q n size leaves _ (Some w) t e a l (first _) = record {
  offset = q;
  what = w;
  is = refl;
  low = omega
      arith;
  high = leaf_inside d 0 size q leaves w a e;
}
new_here d s b q n size leaves c (Some w) t e a l (later _ _ h) = elim h [ ]
new_here d s b q n size leaves c None true e a l h = elim h [ ]
new_here d s b q n size leaves _ None false e a l (first _) = record {
  offset = q;
  what = Int U8;
  is = refl;
  low =
      omega arith;
  high = omega arith;
}
new_here d s b q n size leaves c None false e a l (later _ _ h) = elim h [ ]

pub new_from : {N : Type 0} (d : Model) (s : Side) (b q n size : ℕ) (leaves : List Leaf) (c : Cell N)
    → AreLeavesIn d 0 size leaves → q + n ≤ size
    → IsIn c (cells_from d s b leaves q n) → IsNew d s b q size c
new_from d s b q zero size leaves c a l h = elim h [ ]
new_from d s b q (suc n) size leaves c a l h =
    ⊎_elim
    (λ k. new_here d s b q n size leaves c (leaf_at leaves q) (is_in_leaf d leaves q) refl a l k)
    (λ k. let r = new_from d s b (q + 1) n size leaves c a (omega arith) k in record {
      offset = r.offset;
      what =
          r.what;
      is = r.is;
      low = omega (arith, r.low);
      high = r.high;
    })
    (in_append c (cell_here s b q (leaf_at leaves q) (is_in_leaf d leaves q)) (cells_from d s b leaves (q + 1) n) h)

-- a cell from an offset on is of a leaf that begins there, or of a byte outside of all leaves
pub record IsOutside {N : Type 0} (d : Model) (s : Side) (b q : ℕ) (leaves : List Leaf) (c : Cell N) : Type 0 where
  pub offset : ℕ
  pub what : Scalar
  pub is : c ≡ undefined_cell s b offset what
  pub low : q ≤ offset
  pub free : (e size p : ℕ) (w : Scalar) → AreLeavesIn d e size leaves → leaf_at leaves p ≡ Some w → p < offset
      → p + size_of d w ≤ offset

outside_leaf : (d : Model) (q : ℕ) (leaves : List Leaf) (v : Scalar) → leaf_at leaves q ≡ Some v
    → (e size p : ℕ) (w : Scalar) → AreLeavesIn d e size leaves → leaf_at leaves p ≡ Some w → p < q → p + size_of d w
    ≤ q
outside_leaf d q leaves v f e size p w a g l =
    ⊎_elim (λ h. let r = in_leaf d e size p q leaves w a l h g in absurd (let i : Some v ≡ None = sym f ∙ r.none in
    cc)) (λ h. h) (cases_lt q (p + size_of d w))

outside_byte : (d : Model) (q : ℕ) (leaves : List Leaf) → is_in_leaf d leaves q ≡ false
    → (e size p : ℕ) (w : Scalar) → AreLeavesIn d e size leaves → leaf_at leaves p ≡ Some w → p < q → p + size_of d w
    ≤ q
outside_byte d q leaves f e size p w a g l =
    ⊎_elim (λ h. let r = in_leaf d e size p q leaves w a l h g in absurd (both_ways (is_in_leaf d leaves q) f
    r.inside)) (λ h. h) (cases_lt q (p + size_of d w))

outside_here : {N : Type 0} (d : Model) (s : Side) (b q : ℕ) (leaves : List Leaf) (c : Cell N) (o : Option Scalar) (t
    : Bool) → leaf_at leaves q ≡ o → is_in_leaf d leaves q ≡ t
    → IsIn c (cell_here s b q o t) → IsOutside d s b q leaves c
outside_here d s b q leaves _ (Some w) t e f (first _) = record {
  offset = q;
  what = w;
  is = refl;
  low = omega arith;
  free = outside_leaf d q leaves w e;
}
outside_here d s b q leaves c (Some w) t e f (later _ _ h) = elim h [ ]
outside_here d s b q leaves c None true e f h = elim h [ ]
outside_here d s b q leaves _ None false e f (first _) = record {
  offset = q;
  what = Int U8;
  is = refl;
  low = omega
      arith;
  free = outside_byte d q leaves f;
}
outside_here d s b q leaves c None false e f (later _ _ h) = elim h [ ]

outside_from : {N : Type 0} (d : Model) (s : Side) (b q n : ℕ) (leaves : List Leaf) (c : Cell N)
    → IsIn c (cells_from d s b leaves q n) → IsOutside d s b q leaves c
outside_from d s b q zero leaves c h = elim h [ ]
outside_from d s b q (suc n) leaves c h =
    ⊎_elim
    (λ k. outside_here d s b q leaves c (leaf_at leaves q) (is_in_leaf d leaves q) refl refl k)
    (λ k. let r = outside_from d s b (q + 1) n leaves c k in record {
      offset = r.offset;
      what = r.what;
      is = r.is;
      low = omega (arith, r.low);
      free = r.free;
    })
    (in_append c (cell_here s b q (leaf_at leaves q) (is_in_leaf d leaves q)) (cells_from d s b leaves (q + 1) n) h)

-- two of them lie apart
apart_after : {N : Type 0} (d : Model) (s : Side) (b p q : ℕ) (v w : Scalar) → p + size_of d v ≤ q
    → AreApart {N = N} d (undefined_cell s b p v) (undefined_cell s b q w)
apart_after d s b p q v w l = record {
  ordered = before_from b (3 * p + side_number s) b (3 * q + side_number s) (in_block refl (omega (
    arith,
    size_positive d v,
  )));
  apart = and_right (share_memory s s) (touches (at s b p (size_of d v)) (at s b q (size_of d w)))
      (and_right (nat_eq b b) (nat_lt p (q + size_of d w) && nat_lt q (p + size_of d v))
      (and_right (nat_lt p (q + size_of d w)) (nat_lt q (p + size_of d v)) (le-ltb q (p + size_of d v) l)));
}

here_apart : {N : Type 0} (d : Model) (s : Side) (b q size : ℕ) (leaves : List Leaf) (c y : Cell N) (o : Option
    Scalar) (t : Bool) → leaf_at leaves q ≡ o → AreLeavesIn d 0 size leaves
    → IsIn c (cell_here s b q o t) → IsOutside d s b (q + 1) leaves y → AreApart d c y
here_apart d s b q size leaves _ y (Some w) t e a (first _) r =
    subst (AreApart d (undefined_cell s b q w)) (sym r.is) (apart_after d s b q r.offset w r.what (r.free 0 size q w
    a e (omega (arith, r.low))))
here_apart d s b q size leaves c y (Some w) t e a (later _ _ h) r = elim h [ ]
here_apart d s b q size leaves c y None true e a h r = elim h [ ]
here_apart d s b q size leaves _ y None false e a (first _) r =
    subst (AreApart d (undefined_cell s b q (Int U8))) (sym r.is) (apart_after d s b q r.offset (Int U8) r.what
    (omega (arith, r.low)))
here_apart d s b q size leaves c y None false e a (later _ _ h) r = elim h [ ]

own_here : (N : Type 0) (d : Model) (s : Side) (b q : ℕ) (o : Option Scalar) (t : Bool)
    → EachPair {N = N} (AreApart d) (cell_here s b q o t)
own_here N d s b q (Some w) t = (tt, tt)
own_here N d s b q None true = tt
own_here N d s b q None false = (tt, tt)

pub new_pairs : (N : Type 0) (d : Model) (s : Side) (b q n size : ℕ) (leaves : List Leaf)
    → AreLeavesIn d 0 size leaves → EachPair {N = N} (AreApart d) (cells_from d s b leaves q n)
new_pairs N d s b q zero size leaves a = tt
new_pairs N d s b q (suc n) size leaves a =
    pairs_append (AreApart d) (cell_here s b q (leaf_at leaves q) (is_in_leaf d leaves q)) (cells_from d s b leaves
    (q + 1) n)
    (own_here N d s b q (leaf_at leaves q) (is_in_leaf d leaves q)) (new_pairs N d s b (q + 1) n size leaves a)
    (λ c y h k. here_apart d s b q size leaves c y (leaf_at leaves q) (is_in_leaf d leaves q) refl a h (outside_from
    d s b (q + 1) n leaves y k))
