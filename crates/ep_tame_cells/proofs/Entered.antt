-- Cells of a block that is entered or left, and of all others.
use Rattle.std.proofs.Common.{◌≡◌, ℕ, zero, suc, ◌+◌, ◌<◌, ◌≤◌, Bool, true, false, cond, ◌⊎◌, inl, inr, List, [], ◌∷◌}
use Rattle.ep_int.proofs.Basics.{some-injective}
use Rattle.std.proofs.Common.{Option, Some, None, refl, sym, ap, ◌∙◌, subst, arith, nat_eq, slice_get, eq-zero-or-pos}
use Rattle.std.proofs.Common.{◌-◌}
use Rattle.std.proofs.lemmas.Bool.{eqb-true}
use Rattle.ep_int.specs.declared.types.IntType.TheVariants.{U8}
use Rattle.ep_int.specs.declared.types.Model.{Model}
use Rattle.ep_int.specs.declared.types.Scalar.{Scalar}
use Rattle.ep_int.specs.declared.types.Scalar.TheVariants.{Int}
use Rattle.ep_layout.specs.declared.types.Leaf.{Leaf}
use Rattle.ep_layout.specs.Table.{leaves}
use Rattle.ep_bitslice.specs.declared.cell.Side.TheVariants.{Shared}
use Rattle.ep_domain.specs.Domain.{Ops}
use Rattle.ep_cells.specs.declared.cell.Cell.{Cell}
use Rattle.ep_cells.specs.Cells.{IsIn, first, later, put_all, each_becomes}
use Rattle.ep_cells.specs.Forms.{Fate, reformed}
use Rattle.ep_cells.specs.Kill.{undefined_cell, leaf_at, is_in_leaf, cell_here, cells_from, entry_cells, has_target}
use Rattle.ep_cells.specs.Kill.{without_target, left_by_kill, fate_by_kill}
use Rattle.ep_cells.specs.States.{AreCells, AreAlike}
use Rattle.ep_cells.proofs.Lists.{in_append, in_left, in_right, in_each, each_in, in_map, map_in, in_put_all}
use Rattle.ep_cells.proofs.Lists.{put_all_keeps, put_there, put_keeps}
use Rattle.ep_core.specs.Program.{Block, Program}
use Rattle.ep_tame_cells.specs.Shape.{or_outside, cell_type, IsLeafCell, IsCovered, HasShape}
use Rattle.ep_tame_cells.proofs.Shapes.{leaf_alike}
use Rattle.ep_tame_cells.specs.BlockLaws.{cells_after, BlockLaws}

module _ {N : Type 0} where
  -- ---- the new cells

  -- an undefined cell of this block, of a place and type that has one
  pub record IsNew (d : Model) (b : ℕ) (ls : List Leaf) (from end : ℕ) (y : Cell N) : Type 0 where
    pub offset : ℕ
    pub what : Scalar
    pub low : from ≤ offset
    pub high : offset < end
    pub typed : or_outside (leaf_at ls offset) (is_in_leaf d ls offset) ≡ Some what
    pub is : y ≡ undefined_cell Shared b offset what

  record IsHere (b q : ℕ) (o : Option Scalar) (inside : Bool) (y : Cell N) : Type 0 where
    pub what : Scalar
    pub typed : or_outside o inside ≡ Some what
    pub is : y ≡ undefined_cell Shared b q what

  here_is : (b q : ℕ) (o : Option Scalar) (inside : Bool) (y : Cell N) → IsIn y (cell_here Shared b q o inside)
      → IsHere b q o inside y
  here_is b q (Some w) inside _ (first _) = record { what = w; typed = refl; is = refl }
  here_is b q (Some w) inside y (later _ _ i) = elim i [ ]
  here_is b q None true y i = elim i [ ]
  here_is b q None false _ (first _) = record { what = Int U8; typed = refl; is = refl }
  here_is b q None false y (later _ _ i) = elim i [ ]

  here_in : (b q : ℕ) (o : Option Scalar) (inside : Bool) (w : Scalar) → or_outside o inside ≡ Some w
      → IsIn {N = N} (undefined_cell Shared b q w) (cell_here Shared b q o inside)
  here_in b q (Some v) inside w h =
      subst (λ x. IsIn {N = N} (undefined_cell Shared b q x) (cell_here Shared b q (Some v) inside)) (some-injective h)
      (first [])
  here_in b q None true w h = absurd cc
  here_in b q None false w h =
      subst (λ x. IsIn {N = N} (undefined_cell Shared b q x) (cell_here Shared b q None false)) (some-injective h) (first [])

  pub new_is : (d : Model) (b : ℕ) (ls : List Leaf) (q n : ℕ) (y : Cell N) → IsIn y (cells_from d Shared b ls q n)
      → IsNew d b ls q (q + n) y
  new_is d b ls q zero y i = elim i [ ]
  new_is d b ls q (suc n) y i =
      by_place
      (in_append y (cell_here Shared b q (leaf_at ls q) (is_in_leaf d ls q)) (cells_from d Shared b ls (q + 1) n) i)
      (λ j. new_is d b ls (q + 1) n y j)
    where
      by_place : IsIn y (cell_here Shared b q (leaf_at ls q) (is_in_leaf d ls q))
          ⊎ IsIn y (cells_from d Shared b ls (q + 1) n)
          → (IsIn y (cells_from d Shared b ls (q + 1) n) → IsNew d b ls (q + 1) (q + 1 + n) y)
          → IsNew d b ls q (q + suc n) y
      by_place (inl j) next =
          let h = here_is b q (leaf_at ls q) (is_in_leaf d ls q) y j in
          record { offset = q; what = h.what; low = omega arith; high = omega arith; typed = h.typed; is = h.is }
      by_place (inr j) next =
          let r = next j in
          let low = r.low in
          let high = r.high in
          record {
            offset = r.offset;
            what = r.what;
            low = omega (arith, low);
            high = omega (arith, high);
            typed = r.typed;
            is = r.is;
          }

  new_in : (d : Model) (b : ℕ) (ls : List Leaf) (q n r : ℕ) (w : Scalar) → q ≤ r → r < q + n
      → or_outside (leaf_at ls r) (is_in_leaf d ls r) ≡ Some w
      → IsIn {N = N} (undefined_cell Shared b r w) (cells_from d Shared b ls q n)
  new_in d b ls q zero r w low high h = absurd (omega (arith, low, high))
  new_in d b ls q (suc n) r w low high h =
      by_place (eq-zero-or-pos (r - q)) (λ l. new_in d b ls (q + 1) n r w l (omega (arith, high)) h)
    where
      by_place : ((r - q ≡ 0) ⊎ (0 < r - q))
          → (q + 1 ≤ r → IsIn {N = N} (undefined_cell Shared b r w) (cells_from d Shared b ls (q + 1) n))
          → IsIn {N = N} (undefined_cell Shared b r w) (cells_from d Shared b ls q (suc n))
      by_place (inl e) next =
          let same : r ≡ q = omega (arith, low, e) in
          in_left (undefined_cell Shared b r w) (cell_here Shared b q (leaf_at ls q) (is_in_leaf d ls q))
          (cells_from d Shared b ls (q + 1) n)
          (subst (λ x.
          IsIn {N = N} (undefined_cell Shared b r w) (cell_here Shared b x (leaf_at ls x) (is_in_leaf d ls x)))
          same (here_in b r (leaf_at ls r) (is_in_leaf d ls r) w h))
      by_place (inr p) next =
          in_right (undefined_cell Shared b r w) (cell_here Shared b q (leaf_at ls q) (is_in_leaf d ls q))
          (cells_from d Shared b ls (q + 1) n) (next (omega (arith, p)))

  pub put_more : (more cs : List (Cell N)) (y : Cell N) → IsIn y more → IsIn y (put_all more cs)
  put_more [] cs y i = elim i [ ]
  put_more (_ ∷ more) cs y (first _) = put_there y (put_all more cs)
  put_more (c ∷ more) cs y (later _ _ i) = put_keeps c y (put_all more cs) (put_more more cs y i)

  -- ---- the other cells

  alike_itself : (x : Cell N) → AreAlike x x
  alike_itself x = record { side = refl; block = refl; offset = refl; what = refl }

  without_alike : (b : ℕ) (x : Cell N) → AreAlike x (without_target b x)
  without_alike b x = record { side = refl; block = refl; offset = refl; what = refl }

  pub one_in : (y z : Cell N) → IsIn y (z ∷ []) → y ≡ z
  one_in _ z (first _) = refl
  one_in y z (later _ _ i) = elim i [ ]

  left_is : (b : ℕ) (x y : Cell N) → IsIn y (left_by_kill Shared b x) → AreAlike x y
  left_is b x y i = by_block (nat_eq x.block b) i
    where
      by_target : (t : Bool) → IsIn y (cond t (without_target b x ∷ []) (x ∷ [])) → AreAlike x y
      by_target true i = subst (AreAlike x) (sym (one_in y (without_target b x) i)) (without_alike b x)
      by_target false i = subst (AreAlike x) (sym (one_in y x i)) (alike_itself x)

      by_block : (t : Bool)
          → IsIn y (cond t [] (cond (has_target b x.value) (without_target b x ∷ []) (x ∷ []))) → AreAlike x y
      by_block true i = elim i [ ]
      by_block false i = by_target (has_target b x.value) i

  record Left (b : ℕ) (x : Cell N) : Type 0 where
    pub cell : Cell N
    pub is_in : IsIn cell (left_by_kill Shared b x)
    pub alike : AreAlike x cell

  left_of : (b : ℕ) (x : Cell N) → nat_eq x.block b ≡ false → Left b x
  left_of b x other = by_target (has_target b x.value) refl
    where
      kill_by : Bool → Bool → List (Cell N)
      kill_by t u = cond t [] (cond u (without_target b x ∷ []) (x ∷ []))

      by_target : (t : Bool) → has_target b x.value ≡ t → Left b x
      by_target true e = record {
        cell = without_target b x;
        is_in =
            subst (IsIn (without_target b x)) (sym (ap (λ t. kill_by t (has_target b x.value)) other
            ∙ ap (kill_by false) e)) (first []);
        alike = without_alike b x;
      }
      by_target false e = record {
        cell = x;
        is_in = subst (IsIn x) (sym (ap (λ t. kill_by t (has_target b x.value)) other ∙ ap (kill_by false) e))
            (first []);
        alike = alike_itself x;
      }

  -- ---- the state after it

  module _ (p : Program) (b : ℕ) (k : Block) (cs : List (Cell N)) (at : slice_get p.blocks b ≡ Some k) where
    abbrev fate : Fate
    fate = fate_by_kill Shared b

    abbrev news : List (Cell N)
    news = entry_cells p.types.model Shared b (leaves p.types k.ty) k.size

    abbrev olds : List (Cell N)
    olds = each_becomes (left_by_kill Shared b) cs

    new_covers : IsCovered p (cells_after p b k cs) b
    new_covers j there q l w is =
        let same : k ≡ j = some-injective (sym at ∙ there) in
        let inside : q < k.size = subst (λ (z : Block). q < z.size) (sym same) l in
        let typed = ap (λ (z : Block). cell_type p.types z.ty q) same ∙ is in
        record {
          cell = reformed fate (undefined_cell Shared b q w);
          is_in = map_in (reformed fate) (undefined_cell Shared b q w) (put_all news olds)
              (put_more news olds (undefined_cell Shared b q w)
              (new_in p.types.model b (leaves p.types k.ty) 0 k.size q w (omega arith) (omega (arith, inside)) typed));
          block = refl;
          offset = refl;
          what = refl;
        }

    old_covers : (c : ℕ) → nat_eq c b ≡ false → IsCovered p cs c → IsCovered p (cells_after p b k cs) c
    old_covers c other h j there q l w is =
        let x = h j there q l w is in
        let y = left_of b x.cell (ap (λ z. nat_eq z b) x.block ∙ other) in
        record {
          cell = reformed fate y.cell;
          is_in = map_in (reformed fate) y.cell (put_all news olds)
              (put_all_keeps news y.cell olds (each_in (left_by_kill Shared b) x.cell y.cell cs x.is_in y.is_in));
          block = sym y.alike.block ∙ x.block;
          offset = sym y.alike.offset ∙ x.offset;
          what = sym y.alike.what ∙ x.what;
        }

    all_covers : (c : ℕ) → IsCovered p cs c → IsCovered p (cells_after p b k cs) c
    all_covers c h = by_block (nat_eq c b) refl
      where
        by_block : (t : Bool) → nat_eq c b ≡ t → IsCovered p (cells_after p b k cs) c
        by_block true e = subst (IsCovered p (cells_after p b k cs)) (sym (eqb-true c b e)) new_covers
        by_block false e = old_covers c e h

    new_leaf : (y : Cell N) → IsIn y news → IsLeafCell p y
    new_leaf y i =
        let n = new_is p.types.model b (leaves p.types k.ty) 0 k.size y i in
        let high = n.high in
        subst (IsLeafCell p) (sym n.is)
        (record { of_block = k; there = at; side = refl; inside = omega (arith, high); what = n.typed })

    new_block : (y : Cell N) → IsIn y news → y.block ≡ b
    new_block y i =
        let n = new_is p.types.model b (leaves p.types k.ty) 0 k.size y i in ap (λ (z : Cell N). z.block) n.is

    -- forms are nothing of places
    formed_leaf : (y : Cell N) → IsLeafCell p y → IsLeafCell p (reformed fate y)
    formed_leaf y l =
        leaf_alike p y (reformed fate y) l (record { side = refl; block = refl; offset = refl; what = refl })

    shape_after : HasShape p cs → AreCells p.types.model (cells_after p b k cs) → HasShape p (cells_after p b k cs)
    shape_after s cells = record {
      cells = cells;
      leaf = λ c i.
          (let m = in_map (reformed fate) c (put_all news olds) i in
          subst (IsLeafCell p) (sym m.is) (formed_leaf m.origin (leaf_at_origin m.origin
          (in_put_all news m.origin olds m.is_in))));
      whole = λ c i.
          (let m = in_map (reformed fate) c (put_all news olds) i in
          subst (IsCovered p (cells_after p b k cs)) (sym (ap (λ (z : Cell N). z.block) m.is))
          (whole_at_origin m.origin (in_put_all news m.origin olds m.is_in)));
    }
      where
        leaf_at_origin : (y : Cell N) → IsIn y news ⊎ IsIn y olds → IsLeafCell p y
        leaf_at_origin y (inl i) = new_leaf y i
        leaf_at_origin y (inr i) =
            let f = in_each (left_by_kill Shared b) y cs i in
            leaf_alike p f.origin y (s.leaf f.origin f.is_in) (left_is b f.origin y f.becomes)

        whole_at_origin : (y : Cell N) → IsIn y news ⊎ IsIn y olds → IsCovered p (cells_after p b k cs) y.block
        whole_at_origin y (inl i) = subst (IsCovered p (cells_after p b k cs)) (sym (new_block y i)) new_covers
        whole_at_origin y (inr i) =
            let f = in_each (left_by_kill Shared b) y cs i in
            subst (IsCovered p (cells_after p b k cs)) (left_is b f.origin y f.becomes).block
            (all_covers f.origin.block (s.whole f.origin f.is_in))

pub block_laws_of : {N : Type 0} (D : Ops N) → BlockLaws D
block_laws_of D = record {
  shape = λ p b k cs at s cells. shape_after p b k cs at s cells;
  covered = λ p b k cs at. new_covers p b k cs at;
  keeps = λ p b k cs at s c h. all_covers p b k cs at c h;
}
