-- Each byte of a global, and of main's result, is in a first cell.
use Rattle.std.proofs.Common.{◌≡◌, ◌⊎◌, inl, inr, ℕ, zero, suc, ◌+◌, ◌-◌, ◌<◌, ◌≤◌, Bool, true, false, ◌&&◌, ◌||◌}
use Rattle.ep_cells.proofs.Entry.{leaves_end}
use Rattle.std.proofs.Common.{nat_eq, nat_le, nat_lt, if◌then◌else◌, cond, List, [], ◌∷◌, slice_get, Option, Some}
use Rattle.std.proofs.Common.{None, refl, sym, ap, ◌∙◌, subst, arith, eq-zero-or-pos}
use Rattle.std.proofs.lemmas.Bool.{and_parts, and_from, or_cases, or_right, eq-eqb, ne_eqb, eqb-true, leb-true}
use Rattle.std.proofs.lemmas.Bool.{ltb-true, lt-ltb}
use Rattle.ep_int.proofs.Basics.{size_positive}
use Rattle.ep_int.specs.declared.types.Model.{Model}
use Rattle.ep_int.specs.declared.types.Scalar.{Scalar}
use Rattle.ep_int.specs.Types.{size_of}
use Rattle.ep_layout.specs.declared.types.Leaf.{Leaf}
use Rattle.ep_layout.specs.Table as table
use Rattle.ep_bitslice.specs.declared.cell.Side.{Side}
use Rattle.ep_bitslice.specs.declared.cell.Side.TheVariants.{Shared}
use Rattle.ep_domain.specs.Domain.{Ops}
use Rattle.ep_cells.specs.declared.cell.Cell.{Cell}
use Rattle.ep_cells.specs.Cells.{IsIn, first, is_same_side}
use Rattle.ep_cells.specs.Kill.{AreLeavesIn, leaf_at, is_in_leaf}
use Rattle.ep_cells.specs.Look.{covers}
use Rattle.ep_cells.proofs.Lists.{in_left, in_right}
use Rattle.ep_core.specs.Program.{Block, Program}
use Rattle.ep_core.specs.Runs.{is_result}
use Rattle.ep_transfers.specs.Ends.{first_cell, zero_byte, first_here, first_from, main_result, first_of_block}
use Rattle.ep_transfers.specs.Ends.{first_of_blocks}

-- ---- leaves

-- a leaf ends inside the block
pub leaf_ends : (d : Model) (e size q : ℕ) (w : Scalar) (ls : List Leaf) → AreLeavesIn d e size ls
    → leaf_at ls q ≡ Some w → q + size_of d w ≤ size
leaf_ends d e size q w [] h i = absurd (let c : None ≡ Some w = i in cc)
leaf_ends d e size q w (l ∷ ls) h i =
    by_place (nat_eq l.offset q) refl i (leaf_ends d (l.offset + size_of d l.what) size q w ls h.1)
  where
    by_place : (t : Bool) → nat_eq l.offset q ≡ t → cond t (Some l.what) (leaf_at ls q) ≡ Some w
        → (leaf_at ls q ≡ Some w → q + size_of d w ≤ size) → q + size_of d w ≤ size
    by_place true e g f =
        let what : l.what ≡ w = cc in
        subst (λ z. z + size_of d w ≤ size) (eqb-true l.offset q e)
        (subst (λ z. l.offset + size_of d z ≤ size) what (leaves_end d (l.offset + size_of d l.what) size ls h.1))
    by_place false e g f = f g

-- the leaf that an offset lies in
record LeafOf (d : Model) (e q : ℕ) (ls : List Leaf) : Type 0 where
  offset : ℕ
  what : Scalar
  is : leaf_at ls offset ≡ Some what
  from : e ≤ offset
  low : offset ≤ q
  high : q < offset + size_of d what

leaf_of : (d : Model) (e size q : ℕ) (ls : List Leaf) → AreLeavesIn d e size ls → is_in_leaf d ls q ≡ true
    → LeafOf d e q ls
leaf_of d e size q [] h i = absurd (let c : false ≡ true = i in cc)
leaf_of d e size q (l ∷ ls) h i =
    by_first (or_cases (nat_le l.offset q && nat_lt q (l.offset + size_of d l.what)) (is_in_leaf d ls q) i)
    (leaf_of d (l.offset + size_of d l.what) size q ls h.1)
  where
    by_first : ((nat_le l.offset q && nat_lt q (l.offset + size_of d l.what)) ≡ true) ⊎ (is_in_leaf d ls q ≡ true)
        → (is_in_leaf d ls q ≡ true → LeafOf d (l.offset + size_of d l.what) q ls) → LeafOf d e q (l ∷ ls)
    by_first (inl g) f =
        let r = and_parts (nat_le l.offset q) (nat_lt q (l.offset + size_of d l.what)) g in
        record {
          offset = l.offset;
          what = l.what;
          is = rw (eq-eqb l.offset l.offset refl) refl;
          from = h.0;
          low = leb-true l.offset q r.0;
          high = ltb-true q (l.offset + size_of d l.what) r.1;
        }
    by_first (inr g) f =
        let r = f g in
        let s = size_positive d l.what in
        let a = r.from in
        let b = h.0 in
        record {
          offset = r.offset;
          what = r.what;
          is =
              ap (λ t. if t then Some l.what else leaf_at ls r.offset)
              (ne_eqb l.offset r.offset (λ c. omega (arith, a, s, c)))
              ∙ r.is;
          from = omega (arith, a, b);
          low = r.low;
          high = r.high;
        }

-- ---- a cell that has a byte on each side

-- a cell in a list has the byte
pub record IsCovered {N : Type 0} (d : Model) (s : Side) (b q : ℕ) (cs : List (Cell N)) : Type 0 where
  pub cell : Cell N
  pub is_in : IsIn cell cs
  pub has : covers d s b q cell ≡ true

shared_covers : {N : Type 0} (d : Model) (s : Side) (b q : ℕ) (c : Cell N) → c.side ≡ Shared → c.block ≡ b
    → c.offset ≤ q → q < c.offset + size_of d c.what → covers d s b q c ≡ true
shared_covers d s b q c e f low high =
    and_from (is_same_side c.side s || is_same_side c.side Shared)
    (nat_eq c.block b && (nat_le c.offset q && nat_lt q (c.offset + size_of d c.what)))
    (or_right (is_same_side c.side s) (is_same_side c.side Shared)
    (subst (λ z. is_same_side z Shared ≡ true) (sym e) refl))
    (and_from (nat_eq c.block b) (nat_le c.offset q && nat_lt q (c.offset + size_of d c.what)) (eq-eqb c.block b f)
    (and_from (nat_le c.offset q) (nat_lt q (c.offset + size_of d c.what)) (grind (arith, low))
    (lt-ltb q (c.offset + size_of d c.what) high)))

module _ {N : Type 0} (D : Ops N) (p : Program) where
  abbrev here : ℕ → List Leaf → ℕ → List (Cell N)
  here b ls o = first_here D p b o (leaf_at ls o) (is_in_leaf p.types.model ls o)

  -- the cell of an offset is among those of all
  here_in : (b : ℕ) (ls : List Leaf) (q n o : ℕ) (c : Cell N) → q ≤ o → o < q + n → IsIn c (here b ls o)
      → IsIn c (first_from D p b ls q n)
  here_in b ls q zero o c low high i = absurd (omega (arith, low, high))
  here_in b ls q (suc n) o c low high i =
      by_place (eq-zero-or-pos (o - q)) (λ l. here_in b ls (q + 1) n o c l (omega (arith, high)) i)
    where
      by_place : ((o - q ≡ 0) ⊎ (0 < o - q)) → (q + 1 ≤ o → IsIn c (first_from D p b ls (q + 1) n))
          → IsIn c (first_from D p b ls q (suc n))
      by_place (inl e) next =
          let same : o ≡ q = omega (arith, low, e) in
          in_left c (here b ls q) (first_from D p b ls (q + 1) n) (subst (λ x. IsIn c (here b ls x)) same i)
      by_place (inr m) next = in_right c (here b ls q) (first_from D p b ls (q + 1) n) (next (omega (arith, m)))

  module _ (b : ℕ) (s : Side) (size : ℕ) (ls : List Leaf) (lie : AreLeavesIn p.types.model 0 size ls) (q : ℕ)
      (l : q < size) where
    abbrev d : Model
    d = p.types.model

    leaf_covers : (o : ℕ) (w : Scalar) → leaf_at ls o ≡ Some w → o ≤ q → q < o + size_of d w
        → IsCovered d s b q (first_from D p b ls 0 size)
    leaf_covers o w e low high = record {
      cell = first_cell D p b o w;
      is_in = here_in b ls 0 size o (first_cell D p b o w) (omega arith) (omega (arith, low, l))
          (subst (λ z. IsIn (first_cell D p b o w) (first_here D p b o z (is_in_leaf d ls o))) (sym e) (first []));
      has = shared_covers d s b q (first_cell D p b o w) refl refl low high;
    }

    byte_covers : (o : Option Scalar) → leaf_at ls q ≡ o → is_in_leaf d ls q ≡ false
        → IsCovered d s b q (first_from D p b ls 0 size)
    byte_covers (Some w) e f =
        let r = size_positive d w in leaf_covers q w e (omega arith) (omega (arith, r))
    byte_covers None e f = record {
      cell = zero_byte D p b q;
      is_in = here_in b ls 0 size q (zero_byte D p b q) (omega arith) (omega (arith, l))
          (subst (λ z. IsIn (zero_byte D p b q) (first_here D p b q z (is_in_leaf d ls q))) (sym e)
          (subst (λ z. IsIn (zero_byte D p b q) (first_here D p b q None z)) (sym f) (first [])));
      has = shared_covers d s b q (zero_byte D p b q) refl refl (omega arith) (omega arith);
    }

    block_covered : IsCovered d s b q (first_from D p b ls 0 size)
    block_covered = by_leaf (is_in_leaf d ls q) refl
      where
        by_leaf : (t : Bool) → is_in_leaf d ls q ≡ t → IsCovered d s b q (first_from D p b ls 0 size)
        by_leaf true e =
            let r = leaf_of d 0 size q ls lie e in leaf_covers r.offset r.what r.is r.low r.high
        by_leaf false e = byte_covers (leaf_at ls q) refl e

  -- ---- all blocks

  block_in : (b : ℕ) (xs : List Block) (i : ℕ) (x : Block) (c : Cell N) → slice_get xs i ≡ Some x
      → IsIn c (first_of_block D p (b + i) x) → IsIn c (first_of_blocks D p b xs)
  block_in b [] i x c e h = absurd (let f : None ≡ Some x = e in cc)
  block_in b (y ∷ ys) zero x c e h =
      let same : y ≡ x = cc in
      let b0 : b + 0 ≡ b = omega arith in
      in_left c (first_of_block D p b y) (first_of_blocks D p (b + 1) ys)
      (subst (λ z. IsIn c (first_of_block D p b z)) (sym same)
      (subst (λ z. IsIn c (first_of_block D p z x)) b0 h))
  block_in b (y ∷ ys) (suc i) x c e h =
      let further : b + suc i ≡ b + 1 + i = omega arith in
      in_right c (first_of_block D p b y) (first_of_blocks D p (b + 1) ys)
      (block_in (b + 1) ys i x c e (subst (λ z. IsIn c (first_of_block D p z x)) further h))

  pub first_covered : (s : Side) (b q : ℕ) (x : Block) → slice_get p.blocks b ≡ Some x
      → (x.global || is_result (main_result D p) b) ≡ true
      → AreLeavesIn p.types.model 0 x.size (table.leaves p.types x.ty) → q < x.size
      → IsCovered p.types.model s b q (first_of_blocks D p 0 p.blocks)
  first_covered s b q x at shown lie l =
      let c = block_covered b s x.size (table.leaves p.types x.ty) lie q l in
      let same : 0 + b ≡ b = omega arith in
      record {
        cell = c.cell;
        is_in = block_in 0 p.blocks b x c.cell at
            (subst (λ z. IsIn c.cell (first_of_block D p z x)) (sym same)
            (subst (λ t. IsIn c.cell (if t then first_from D p b (table.leaves p.types x.ty) 0 x.size else []))
            (sym shown) c.is_in));
        has = c.has;
      }
