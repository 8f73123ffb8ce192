-- Where main begins, globals and main's result have all their cells, and these are of both memories and no pointers
-- into blocks.
use Rattle.std.proofs.Common.{◌≡◌, ℕ, zero, suc, ◌+◌, ◌-◌, ◌<◌, ◌≤◌, pos, Bool, true, false, ◌||◌, if◌then◌else◌, cond, nat_eq}
use Rattle.std.proofs.Common.{List, [], ◌∷◌, ◌++◌, ◌⊎◌, inl, inr, slice_get, Option, Some, None, refl, sym, ap, ◌∙◌}
use Rattle.std.proofs.Common.{subst, arith, eq-zero-or-pos}
use Rattle.ep_int.specs.declared.types.IntType.{IntType}
use Rattle.ep_int.specs.declared.types.IntType.TheVariants.{U8, I32}
use Rattle.ep_int.specs.declared.types.Order.{Order}
use Rattle.ep_int.specs.declared.types.Scalar.{Scalar}
use Rattle.ep_int.specs.declared.types.Scalar.TheVariants.{Int, Pointer}
use Rattle.ep_int.proofs.Basics.{some-injective}
use Rattle.ep_layout.specs.declared.types.Leaf.{Leaf}
use Rattle.ep_layout.specs.Table.{leaves}
use Rattle.ep_bitslice.specs.declared.cell.Side.TheVariants.{Shared}
use Rattle.ep_domain.specs.Domain.{Ops, Lawful}
use Rattle.ep_cells.specs.declared.cell.Cell.{Cell}
use Rattle.ep_cells.specs.declared.cell.Value.{Value}
use Rattle.ep_cells.specs.declared.cell.Value.TheVariants.{Num, Ptr}
use Rattle.ep_cells.specs.Cells.{IsIn, first, later}
use Rattle.ep_cells.specs.Kill.{leaf_at, is_in_leaf}
use Rattle.ep_cells.proofs.Lists.{in_append, in_left, in_right}
use Rattle.ep_cell_ranges.specs.Sound.{IsFilled, of_leaf, of_byte}
use Rattle.ep_core.specs.Program.{Block, Program}
use Rattle.ep_core.specs.Runs.{Side, is_result}
use Rattle.ep_core.specs.WellFormed.{is_well_formed}
use Rattle.ep_straight_laws.proofs.Scalars.{integer_is}
use Rattle.ep_transfers.specs.Ends.{first_cell, zero_byte, first_here, first_from, main_result, first_of_block}
use Rattle.ep_transfers.specs.Ends.{first_of_blocks}
use Rattle.ep_tame_laws.specs.Tamely.{is_result_of_main}
use Rattle.ep_tame_values.specs.Offsets.{EachTarget}
use Rattle.ep_tame_cells.specs.Shape.{or_outside, cell_type, IsLeafCell, HasCellAt, IsCovered, HasShape}
use Rattle.ep_tame_places.specs.Places.{PointsTo}
use Rattle.ep_tame_states.specs.States.{ValueHas, IsInBlock, IsSure, CellPoints}
use Rattle.ep_tame_ends.proofs.Begun.{first_made, of_all}
use Rattle.ep_tame_laws.proofs.Main.{result_holds}

module _ {N : Type 0} (D : Ops N) (law : Lawful D) (p : Program) (ord : Side → Order)
    (formed : is_well_formed p ≡ true) where
  -- ---- one cell

  -- no pointer into a block
  abbrev HasNoTarget : Option (Value N) → Type 0
  HasNoTarget None = Unit {0}
  HasNoTarget (Some (Num n)) = Unit {0}
  HasNoTarget (Some (Ptr q)) = q.targets ≡ []

  all_have : (P : ℕ → N → Type 0) (v : Option (Value N)) → HasNoTarget v → ValueHas P v
  all_have P None h = tt
  all_have P (Some (Num n)) h = tt
  all_have P (Some (Ptr q)) h = subst (EachTarget P) (sym h) tt

  -- a cell of a first value in this block
  record IsBegun (b : ℕ) (x : Block) (c : Cell N) : Type 0 where
    pub side : c.side ≡ Shared
    pub block : c.block ≡ b
    pub inside : c.offset < x.size
    pub what : cell_type p.types x.ty c.offset ≡ Some c.what
    pub no_target : HasNoTarget c.value
    pub number : (t : IntType) → c.what ≡ Int t → IsSure c

  no_number : {A : Type 0} (t : IntType) → Pointer ≡ Int t → A
  no_number t e = absurd cc

  leaf_begun : (b : ℕ) (x : Block) (o : ℕ) (w : Scalar) → o < x.size → leaf_at (leaves p.types x.ty) o ≡ Some w
      → IsBegun b x (first_cell D p b o w)
  leaf_begun b x o (Int t) h e = record {
    side = refl;
    block = refl;
    inside = h;
    what = ap (λ z. or_outside z (is_in_leaf p.types.model (leaves p.types x.ty) o)) e;
    no_target = tt;
    number = λ u q. record { number = _; value = refl; there = refl };
  }
  leaf_begun b x o Pointer h e = record {
    side = refl;
    block = refl;
    inside = h;
    what = ap (λ z. or_outside z (is_in_leaf p.types.model (leaves p.types x.ty) o)) e;
    no_target = refl;
    number = λ u q. no_number u q;
  }

  begun : (b : ℕ) (x : Block) (c : Cell N)
      → IsFilled p.types.model (first_cell D p b) (zero_byte D p b) (leaves p.types x.ty) 0 x.size c → IsBegun b x c
  begun b x c (of_leaf o w l h e is) =
      subst (IsBegun b x) (sym is) (leaf_begun b x o w (omega (arith, h)) e)
  begun b x c (of_byte o l h e t is) =
      subst (IsBegun b x) (sym is) (record {
        side = refl;
        block = refl;
        inside = omega (arith, h);
        what = ap (λ z. or_outside z (is_in_leaf p.types.model (leaves p.types x.ty) o)) e ∙ ap (or_outside None) t;
        no_target = tt;
        number = λ u q. record { number = _; value = refl; there = refl };
      })

  -- ---- all cells of a block are there

  in_here : (b q : ℕ) (o : Option Scalar) (inside : Bool) (w : Scalar) → or_outside o inside ≡ Some w
      → HasCellAt p (first_here D p b q o inside) b q w
  in_here b q (Some v) inside w h = record {
    cell = first_cell D p b q v;
    is_in = first [];
    block = refl;
    offset = refl;
    what = some-injective h;
  }
  in_here b q None true w h = absurd cc
  in_here b q None false w h = record {
    cell = zero_byte D p b q;
    is_in = first [];
    block = refl;
    offset = refl;
    what = some-injective h;
  }

  at_left : (xs ys : List (Cell N)) (b q : ℕ) (w : Scalar) → HasCellAt p xs b q w → HasCellAt p (xs ++ ys) b q w
  at_left xs ys b q w h = record {
    cell = h.cell;
    is_in = in_left h.cell xs ys h.is_in;
    block = h.block;
    offset = h.offset;
    what = h.what;
  }

  at_right : (xs ys : List (Cell N)) (b q : ℕ) (w : Scalar) → HasCellAt p ys b q w → HasCellAt p (xs ++ ys) b q w
  at_right xs ys b q w h = record {
    cell = h.cell;
    is_in = in_right h.cell xs ys h.is_in;
    block = h.block;
    offset = h.offset;
    what = h.what;
  }

  in_block : (b : ℕ) (ls : List Leaf) (q n r : ℕ) (w : Scalar) → q ≤ r → r < q + n
      → or_outside (leaf_at ls r) (is_in_leaf p.types.model ls r) ≡ Some w
      → HasCellAt p (first_from D p b ls q n) b r w
  in_block b ls q zero r w low high h = absurd (omega (arith, low, high))
  in_block b ls q (suc n) r w low high h =
      by_place (eq-zero-or-pos (r - q)) (λ l. in_block b ls (q + 1) n r w l (omega (arith, high)) h)
    where
      by_place : ((r - q ≡ 0) ⊎ (0 < r - q)) → (q + 1 ≤ r → HasCellAt p (first_from D p b ls (q + 1) n) b r w)
          → HasCellAt p (first_from D p b ls q (suc n)) b r w
      by_place (inl e) next =
          let same : r ≡ q = omega (arith, low, e) in
          at_left (first_here D p b q (leaf_at ls q) (is_in_leaf p.types.model ls q)) (first_from D p b ls (q + 1) n) b r w
          (subst (λ x. HasCellAt p (first_here D p b x (leaf_at ls x) (is_in_leaf p.types.model ls x)) b r w) same
          (in_here b r (leaf_at ls r) (is_in_leaf p.types.model ls r) w h))
      by_place (inr more) next =
          at_right (first_here D p b q (leaf_at ls q) (is_in_leaf p.types.model ls q)) (first_from D p b ls (q + 1) n) b r
          w (next (omega (arith, more)))

  -- ---- all blocks

  abbrev IsShown : ℕ → Block → Type 0
  IsShown b x = (x.global || is_result (main_result D p) b) ≡ true

  abbrev all : List (Cell N)
  all = first_of_blocks D p 0 p.blocks

  record OfBlock (c : Cell N) : Type 0 where
    of_block : Block
    there : slice_get p.blocks c.block ≡ Some of_block
    shown : IsShown c.block of_block
    cell : IsBegun c.block of_block c

  abbrev AreFrom : ℕ → List Block → Type 0
  AreFrom b xs = (i : ℕ) (x : Block) → slice_get xs i ≡ Some x → slice_get p.blocks (b + i) ≡ Some x

  first_there : (b : ℕ) (x : Block) (xs : List Block) → AreFrom b (x ∷ xs) → slice_get p.blocks b ≡ Some x
  first_there b x xs h = subst (λ n. slice_get p.blocks n ≡ Some x) (omega arith) (h 0 x refl)

  next_from : (b : ℕ) (x : Block) (xs : List Block) → AreFrom b (x ∷ xs) → AreFrom (b + 1) xs
  next_from b x xs h i y e = subst (λ n. slice_get p.blocks n ≡ Some y) (further b i) (h (suc i) y e)
    where
      further : (b i : ℕ) → b + suc i ≡ b + 1 + i
      further b i = omega arith

  of_blocks : (b : ℕ) (xs : List Block) → AreFrom b xs → (c : Cell N) → IsIn c (first_of_blocks D p b xs) → OfBlock c
  of_blocks b [] h c i = elim i [ ]
  of_blocks b (x ∷ xs) h c i =
      by_place (in_append c (first_of_block D p b x) (first_of_blocks D p (b + 1) xs) i)
      (λ j. of_blocks (b + 1) xs (next_from b x xs h) c j)
    where
      by_test : (t : Bool) → (x.global || is_result (main_result D p) b) ≡ t
          → IsIn c (if t then first_from D p b (leaves p.types x.ty) 0 x.size else []) → OfBlock c
      by_test false e j = elim j [ ]
      by_test true e j =
          let g = begun b x c (first_made D law p ord formed b (leaves p.types x.ty) 0 x.size c j) in
          record {
            of_block = x;
            there = ap (slice_get p.blocks) g.block ∙ first_there b x xs h;
            shown = ap (λ n. x.global || is_result (main_result D p) n) g.block ∙ e;
            cell = subst (λ n. IsBegun n x c) (sym g.block) g;
          }

      by_place : IsIn c (first_of_block D p b x) ⊎ IsIn c (first_of_blocks D p (b + 1) xs)
          → (IsIn c (first_of_blocks D p (b + 1) xs) → OfBlock c) → OfBlock c
      by_place (inl j) rest = by_test (x.global || is_result (main_result D p) b) refl j
      by_place (inr j) rest = rest j

  begun_at : (c : Cell N) → IsIn c all → OfBlock c
  begun_at c i = of_blocks 0 p.blocks (λ i x e. subst (λ n. slice_get p.blocks n ≡ Some x) (omega arith) e) c i

  in_blocks : (b : ℕ) (xs : List Block) (i : ℕ) (x : Block) → slice_get xs i ≡ Some x → IsShown (b + i) x → (q : ℕ)
      → q < x.size → (w : Scalar) → cell_type p.types x.ty q ≡ Some w
      → HasCellAt p (first_of_blocks D p b xs) (b + i) q w
  in_blocks b [] i x e s q l w h = absurd cc
  in_blocks b (y ∷ xs) zero x e s q l w h =
      let same : y ≡ x = some-injective e in
      let b0 : b + 0 ≡ b = omega arith in
      subst (λ z. HasCellAt p (first_of_block D p b z ++ first_of_blocks D p (b + 1) xs) (b + 0) q w) (sym same)
      (subst (λ n. HasCellAt p (first_of_block D p b x ++ first_of_blocks D p (b + 1) xs) n q w) (sym b0)
      (at_left (first_of_block D p b x) (first_of_blocks D p (b + 1) xs) b q w
      (subst (λ t. HasCellAt p (if t then first_from D p b (leaves p.types x.ty) 0 x.size else []) b q w)
      (sym (subst (λ n. IsShown n x) b0 s))
      (in_block b (leaves p.types x.ty) 0 x.size q w (omega arith) (omega (arith, l)) h))))
  in_blocks b (y ∷ xs) (suc i) x e s q l w h =
      let further : b + 1 + i ≡ b + suc i = omega arith in
      at_right (first_of_block D p b y) (first_of_blocks D p (b + 1) xs) (b + suc i) q w
      (subst (λ n. HasCellAt p (first_of_blocks D p (b + 1) xs) n q w) further
      (in_blocks (b + 1) xs i x e (subst (λ n. IsShown n x) (sym further) s) q l w h))

  pub begun_covers : (b : ℕ) → ((x : Block) → slice_get p.blocks b ≡ Some x → IsShown b x) → IsCovered p all b
  begun_covers b shown x there q l w h =
      subst (λ n. HasCellAt p all n q w) (omega arith)
      (in_blocks 0 p.blocks b x there (subst (λ n. IsShown n x) (omega arith) (shown x there)) q l w h)

  pub begun_shape : HasShape p all
  begun_shape = record {
    cells =
        (of_all D law p ord formed 0 p.blocks
        (λ i x e. subst (λ n. slice_get p.blocks n ≡ Some x) (omega arith) e)).cells;
    leaf = λ c i.
        (let o = begun_at c i in
        record {
          of_block = o.of_block;
          there = o.there;
          side = o.cell.side;
          inside = o.cell.inside;
          what = o.cell.what;
        });
    whole = λ c i.
        (let o = begun_at c i in
        begun_covers c.block (λ x there.
        subst (IsShown c.block) (some-injective (sym o.there ∙ there)) o.shown));
  }

  -- ---- what they hold

  -- the cells of an int are numbers
  number_type : (t : IntType) (q : ℕ) (inside : Bool) (w : Scalar)
      → or_outside (leaf_at (record { offset = 0; what = Int t } ∷ []) q) inside ≡ Some w → (u : IntType) × (w ≡ Int u)
  number_type t q inside w h = at (leaf_at (record { offset = 0; what = Int t } ∷ []) q) (leaf_is q) h
    where
      IsOfIt : Option Scalar → Type 0
      IsOfIt o = (o ≡ None) ⊎ (o ≡ Some (Int t))

      leaf_is : (q : ℕ) → IsOfIt (leaf_at (record { offset = 0; what = Int t } ∷ []) q)
      leaf_is q = by_test (nat_eq 0 q)
        where
          by_test : (b : Bool) → IsOfIt (if b then Some (Int t) else leaf_at [] q)
          by_test true = inr refl
          by_test false = inl refl

      outside : (inside : Bool) → or_outside None inside ≡ Some w → (u : IntType) × (w ≡ Int u)
      outside true h = absurd cc
      outside false h = (U8, sym (some-injective h))

      at : (o : Option Scalar) → IsOfIt o → or_outside o inside ≡ Some w → (u : IntType) × (w ≡ Int u)
      at o (inl e) h = outside inside (sym (ap (λ o. or_outside o inside) e) ∙ h)
      at o (inr e) h = (t, sym (some-injective (sym (ap (λ o. or_outside o inside) e) ∙ h)))

  pub begun_points : (c : Cell N) → IsIn c all → CellPoints D p [] c
  begun_points c i =
      let o = begun_at c i in
      record {
        inside = all_have (IsInBlock D p) c.value o.cell.no_target;
        along = λ z there pt ty at target. all_have (PointsTo D p [] ty) c.value o.cell.no_target;
        sure = λ m.
            (let n = integer_is p formed c.block I32 (result_holds p formed c.block m) in
            let x = some-injective (sym o.there ∙ n.here) in
            let t = number_type I32 c.offset
            (is_in_leaf p.types.model (record { offset = 0; what = Int I32 } ∷ []) c.offset) c.what
            (sym (ap (λ ls. or_outside (leaf_at ls c.offset) (is_in_leaf p.types.model ls c.offset))
            (ap (λ (y : Block). leaves p.types y.ty) x ∙ n.leaf)) ∙ o.cell.what) in
            o.cell.number t.0 t.1);
      }
