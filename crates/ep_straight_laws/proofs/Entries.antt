-- The cells of variables where main begins.
use Rattle.std.proofs.Common.{◌≡◌, ℕ, zero, suc, ◌+◌, Bool, true, false, ◌||◌, cond, nat_eq, List, [], ◌∷◌, refl, sym}
use Rattle.std.proofs.Common.{ap, ◌∙◌, subst, Option, Some, None, arith, slice_get}
use Rattle.std.proofs.lemmas.Bool.{eqb-true}
use Rattle.ep_int.specs.declared.types.IntType.{IntType}
use Rattle.ep_int.specs.declared.types.IntType.TheVariants.{I8, U8, I16, U16, I32, U32, I64, U64}
use Rattle.ep_int.specs.declared.types.Scalar.TheVariants.{Int}
use Rattle.ep_int.specs.Types.{bytes_of}
use Rattle.ep_int.specs.Memory.{contains}
use Rattle.ep_layout.specs.Table as table
use Rattle.ep_bitslice.specs.declared.cell.Side.TheVariants.{Shared}
use Rattle.ep_domain.specs.Domain.{Ops}
use Rattle.ep_cells.specs.declared.cell.Cell.{Cell}
use Rattle.ep_cells.specs.declared.cell.Value.{Value}
use Rattle.ep_cells.specs.declared.cell.Value.TheVariants.{Num, Ptr}
use Rattle.ep_cells.specs.Cells.{side_without, with_side, IsIn, first, later, put_all, each_becomes}
use Rattle.ep_cells.specs.Forms.{reformed}
use Rattle.ep_cells.specs.Kill.{undefined_cell, entry_cells, has_target, killed_pointer, left_by_kill, fate_by_kill}
use Rattle.ep_cells.specs.States.{Known}
use Rattle.ep_cells.proofs.Lists.{in_left, in_right, map_in, each_in, put_there, put_keeps, put_all_keeps}
use Rattle.ep_core.specs.Program.{Block, Program}
use Rattle.ep_core.specs.Runs.{is_result}
use Rattle.ep_transfers.specs.Transfers.{leaves_in, bytes_in, killed_block, killed_blocks}
use Rattle.ep_transfers.specs.Ends.{main_result, first_cell, first_from, first_of_block, first_of_blocks}
use Rattle.ep_straight_laws.proofs.Cells.{IsCellOf}
use Rattle.ep_straight_laws.proofs.Scalars.{IsInteger}

-- no pointer
abbrev pub IsPlain : {N : Type 0} → Option (Value N) → Type 0
IsPlain None = Unit {0}
IsPlain (Some (Num n)) = Unit {0}
IsPlain (Some (Ptr p)) = ⊥

no_target : {N : Type 0} (b : ℕ) (v : Option (Value N)) → IsPlain v → has_target b v ≡ false
no_target b None h = refl
no_target b (Some (Num n)) h = refl
no_target b (Some (Ptr p)) h = absurd h

put_all_there : {N : Type 0} (c : Cell N) (new cs : List (Cell N)) → IsIn c new → IsIn c (put_all new cs)
put_all_there c [] cs i = elim i [ ]
put_all_there c (_ ∷ new) cs (first _) = put_there c (put_all new cs)
put_all_there c (d ∷ new) cs (later _ _ i) = put_keeps d c (put_all new cs) (put_all_there c new cs i)

abbrev pick : {N : Type 0} → ℕ → Cell N → Bool → Bool → List (Cell N)
pick b c x y =
    cond x (with_side c (side_without Shared c.side))
    (cond y (killed_pointer Shared b c (side_without Shared c.side)) (c ∷ []))

module _ {N : Type 0} (D : Ops N) (p : Program) where
  -- ---- blocks that are entered

  -- a cell of another block stays
  kept_cell : (b : ℕ) (o : Option Block) (k : Known N) (d : ℕ) (t : IntType) (v : Option (Value N)) (maybe : Bool)
      → nat_eq d b ≡ false → IsPlain v → IsCellOf k d t v maybe → IsCellOf (killed_block D p Shared b o k) d t v maybe
  kept_cell b o k d t v maybe e h c = record {
    cell = reformed (fate_by_kill Shared b) c.cell;
    is_in = map_in (reformed (fate_by_kill Shared b)) c.cell _
        (put_all_keeps (entry_cells k.model Shared b (leaves_in D p o) (bytes_in D p o)) c.cell (each_becomes
        (left_by_kill Shared b) k.cells)
        (each_in (left_by_kill Shared b) c.cell c.cell k.cells c.is_in stays));
    placed = record { side = c.placed.side; block = c.placed.block; offset = c.placed.offset; what = c.placed.what };
    value = c.value;
    sure = c.sure;
  }
    where
      stays : IsIn c.cell (left_by_kill Shared b c.cell)
      stays =
          subst (λ x. IsIn c.cell (pick b c.cell x (has_target b c.cell.value)))
          (sym (ap (λ z. nat_eq z b) c.placed.block ∙ e))
          (subst (λ y. IsIn c.cell (pick b c.cell false y))
          (sym (ap (has_target b) c.value ∙ no_target b v h)) (first []))

  -- the block's own cell is new
  new_cell : (b : ℕ) (t : IntType) (k : Known N) (i : IsInteger p b t)
      → IsCellOf (killed_block D p Shared b (slice_get p.blocks b) k) b t None true
  new_cell b t k i =
      subst (λ o. IsCellOf (killed_block D p Shared b o k) b t None true) (sym i.here) (record {
        cell = reformed (fate_by_kill Shared b) (undefined_cell Shared b 0 (Int t));
        is_in = map_in (reformed (fate_by_kill Shared b)) (undefined_cell Shared b 0 (Int t)) _
            (put_all_there (undefined_cell Shared b 0 (Int t))
            (entry_cells k.model Shared b (table.leaves p.types i.object.ty) i.object.size)
            (each_becomes (left_by_kill Shared b) k.cells) there);
        placed = record { side = refl; block = refl; offset = refl; what = refl };
        value = refl;
        sure = refl;
      })
    where
      first_of : (t : IntType) → IsIn {N = N} (undefined_cell Shared b 0 (Int t))
          (entry_cells k.model Shared b (record { offset = 0; what = Int t } ∷ []) (bytes_of t))
      first_of I8 = first _
      first_of U8 = first _
      first_of I16 = first _
      first_of U16 = first _
      first_of I32 = first _
      first_of U32 = first _
      first_of I64 = first _
      first_of U64 = first _

      there : IsIn {N = N} (undefined_cell Shared b 0 (Int t))
          (entry_cells k.model Shared b (table.leaves p.types i.object.ty) i.object.size)
      there =
          subst (λ l. IsIn {N = N} (undefined_cell Shared b 0 (Int t))
          (entry_cells k.model Shared b l i.object.size)) (sym i.leaf)
          (subst (λ n. IsIn {N = N} (undefined_cell Shared b 0 (Int t))
          (entry_cells k.model Shared b (record { offset = 0; what = Int t } ∷ []) n)) (sym i.size_is) (first_of t))

  -- a cell of a block that isn't entered stays
  pub outside_stays : (bs : List ℕ) (k : Known N) (d : ℕ) (t : IntType) (v : Option (Value N)) (maybe : Bool)
      → contains d bs ≡ false → IsPlain v → IsCellOf k d t v maybe → IsCellOf
      (killed_blocks D p Shared bs k) d t v maybe
  outside_stays [] k d t v maybe e h c = c
  outside_stays (b ∷ bs) k d t v maybe e h c =
      by (nat_eq d b) refl e
      (λ g r. outside_stays bs (killed_block D p Shared b (slice_get p.blocks b) k) d t v maybe g h r)
    where
      by : (x : Bool) → nat_eq d b ≡ x → (x || contains d bs) ≡ false
          → (contains d bs ≡ false → IsCellOf (killed_block D p Shared b (slice_get p.blocks b) k) d t v maybe
          → IsCellOf (killed_blocks D p Shared bs (killed_block D p Shared b (slice_get p.blocks b) k)) d t v maybe)
          → IsCellOf (killed_blocks D p Shared bs (killed_block D p Shared b (slice_get p.blocks b) k)) d t v maybe
      by true f g go = absurd (cc)
      by false f g go = go g (kept_cell b (slice_get p.blocks b) k d t v maybe f h c)

  -- a block that is entered has a cell without a value
  still_entered : (bs : List ℕ) (k : Known N) (d : ℕ) (t : IntType) → IsInteger p d t → IsCellOf k d t None true
      → IsCellOf (killed_blocks D p Shared bs k) d t None true
  still_entered [] k d t i c = c
  still_entered (b ∷ bs) k d t i c =
      still_entered bs (killed_block D p Shared b (slice_get p.blocks b) k) d t i (by (nat_eq d b) refl)
    where
      by : (x : Bool) → nat_eq d b ≡ x → IsCellOf (killed_block D p Shared b (slice_get p.blocks b) k) d t None true
      by true f =
          subst (λ z. IsCellOf (killed_block D p Shared z (slice_get p.blocks z) k) d t None true) (eqb-true d b f)
          (new_cell d t k i)
      by false f = kept_cell b (slice_get p.blocks b) k d t None true f tt c

  pub entered_cell : (bs : List ℕ) (k : Known N) (d : ℕ) (t : IntType) → IsInteger p d t → contains d bs ≡ true
      → IsCellOf (killed_blocks D p Shared bs k) d t None true
  entered_cell [] k d t i e = absurd (cc)
  entered_cell (b ∷ bs) k d t i e =
      by (nat_eq d b) refl e (λ g. entered_cell bs (killed_block D p Shared b (slice_get p.blocks b) k) d t i g)
    where
      by : (x : Bool) → nat_eq d b ≡ x → (x || contains d bs) ≡ true
          → (contains d bs ≡ true
          → IsCellOf (killed_blocks D p Shared bs (killed_block D p Shared b (slice_get p.blocks b) k)) d t None true)
          → IsCellOf (killed_blocks D p Shared bs (killed_block D p Shared b (slice_get p.blocks b) k)) d t None true
      by true f g go =
          still_entered bs (killed_block D p Shared b (slice_get p.blocks b) k) d t i
          (subst (λ z. IsCellOf (killed_block D p Shared z (slice_get p.blocks z) k) d t None true) (eqb-true d b f)
          (new_cell d t k i))
      by false f g go = go g

  -- ---- blocks that have first values

  in_blocks : (c : Cell N) (xs : List Block) (n i j : ℕ) (x : Block) → slice_get xs i ≡ Some x → n + i ≡ j
      → IsIn c (first_of_block D p j x) → IsIn c (first_of_blocks D p n xs)
  in_blocks c [] n i j x e f h = absurd (let q : None ≡ Some x = e in cc)
  in_blocks c (y ∷ xs) n zero j x e f h =
      let q : y ≡ x = (let r : Some y ≡ Some x = e in cc) in
      let g : j ≡ n = omega (arith, f) in
      in_left c (first_of_block D p n y) (first_of_blocks D p (n + 1) xs)
      (subst (λ z. IsIn c (first_of_block D p z y)) g (subst (λ z. IsIn c (first_of_block D p j z)) (sym q) h))
  in_blocks c (y ∷ xs) n (suc i) j x e f h =
      in_right c (first_of_block D p n y) (first_of_blocks D p (n + 1) xs)
      (in_blocks c xs (n + 1) i j x e (omega (arith, f)) h)

  pub first_there : (b : ℕ) (t : IntType) (i : IsInteger p b t)
      → (i.object.global || is_result (main_result D p) b) ≡ true
      → IsIn (first_cell D p b 0 (Int t)) (first_of_blocks D p 0 p.blocks)
  first_there b t i g =
      in_blocks (first_cell D p b 0 (Int t)) p.blocks 0 b b i.object i.here (omega arith)
      (subst (λ z. IsIn (first_cell D p b 0 (Int t))
      (cond z (first_from D p b (table.leaves p.types i.object.ty) 0 i.object.size) [])) (sym g)
      (subst (λ l. IsIn (first_cell D p b 0 (Int t)) (first_from D p b l 0 i.object.size)) (sym i.leaf)
      (subst (λ n. IsIn (first_cell D p b 0 (Int t))
      (first_from D p b (record { offset = 0; what = Int t } ∷ []) 0 n)) (sym i.size_is) (first_of t))))
    where
      first_of : (t : IntType) → IsIn (first_cell D p b 0 (Int t))
          (first_from D p b (record { offset = 0; what = Int t } ∷ []) 0 (bytes_of t))
      first_of I8 = first _
      first_of U8 = first _
      first_of I16 = first _
      first_of U16 = first _
      first_of I32 = first _
      first_of U32 = first _
      first_of I64 = first _
      first_of U64 = first _
