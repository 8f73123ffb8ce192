-- The cells of a mover where main begins: which there are, and those of first values.
use Rattle.std.proofs.Common.{◌≡◌, ◌⊎◌, inl, inr, ⊎_elim, ℕ, zero, suc, ◌+◌, ◌*◌, ◌<◌, ℤ, Bool, true, false, ◌||◌}
use Rattle.std.proofs.Common.{cond, if◌then◌else◌, nat_eq, List, [], ◌∷◌, ◌++◌, slice_get, Option, Some, None, refl, sym}
use Rattle.std.proofs.Common.{ap, ◌∙◌, subst, arith}
use Rattle.std.specs.Option.{option_and_then}
use Rattle.ep_int.specs.declared.types.IntType.{IntType}
use Rattle.ep_int.specs.declared.types.IntType.TheVariants.{U8}
use Rattle.ep_int.specs.declared.types.Scalar.{Scalar}
use Rattle.ep_int.specs.declared.types.Scalar.TheVariants.{Int}
use Rattle.ep_int.specs.Types.{bytes_of, size_of}
use Rattle.ep_int.specs.Memory.{contains}
use Rattle.ep_int.proofs.Wrapping.{bytes_of_positive}
use Rattle.ep_layout.specs.declared.types.Leaf.{Leaf}
use Rattle.ep_layout.specs.declared.types.Ty.{Ty}
use Rattle.ep_layout.specs.Table as table
use Rattle.ep_bitslice.specs.declared.cell.Side.TheVariants.{Shared}
use Rattle.ep_domain.specs.Domain.{Ops}
use Rattle.ep_cells.specs.declared.cell.Cell.{Cell}
use Rattle.ep_cells.specs.declared.cell.Value.TheVariants.{Num}
use Rattle.ep_cells.specs.Cells.{side_without, with_side, IsIn, each_becomes, first}
use Rattle.ep_cells.specs.Forms.{reformed}
use Rattle.ep_cells.specs.Kill.{undefined_cell, cell_here, cells_from, entry_cells, leaf_at, is_in_leaf}
use Rattle.ep_cells.specs.Kill.{left_by_kill, fate_by_kill}
use Rattle.ep_cells.specs.States.{Known}
use Rattle.ep_cells.proofs.Lists.{in_append, in_each, each_in, in_map, map_in, in_put_all, put_all_keeps}
use Rattle.ep_cells.proofs.Kill.{AfterKill, away, alive, lost, after_kill}
use Rattle.ep_cell_ranges.specs.First.{filled_here, filled_from}
use Rattle.ep_cell_ranges.specs.Sound.{IsFilled, of_leaf, of_byte}
use Rattle.ep_cell_ranges.proofs.Firsts.{made}
use Rattle.ep_core.specs.Program.{Block, Program}
use Rattle.ep_core.specs.Runs.{is_result}
use Rattle.ep_evaluation.specs.Operators.{constant_form}
use Rattle.ep_transfers.specs.Transfers.{leaves_in, bytes_in, killed_block, killed_blocks}
use Rattle.ep_transfers.specs.Ends.{main_result, first_cell, zero_byte, first_here, first_from, first_of_block}
use Rattle.ep_transfers.specs.Ends.{first_of_blocks}
use Rattle.ep_movers.specs.Symbols.{fixed_bytes}
use Rattle.ep_mover_bits.specs.Laws.{Inputs}
use Rattle.ep_mover_bits.proofs.Forms.{forms_follow}
use Rattle.ep_mover_cells.specs.Known.{unit_of, unit_in, LieInOne, LiesInOne}
use Rattle.ep_mover_writes.proofs.Kept.{AllStay, form_kept}
use Rattle.ep_mover_entry.proofs.Grids.{on_grid, in_unit, unit_numbers}

module _ {N : Type 0} (D : Ops N) (p : Program) where
  -- ---- first cells

  first_is : (b : ℕ) (ls : List Leaf) (q n : ℕ)
      → first_from D p b ls q n ≡ filled_from p.types.model (first_cell D p b) (zero_byte D p b) ls q n
  first_is b ls q zero = refl
  first_is b ls q (suc n) =
      at_once (leaf_at ls q) (is_in_leaf p.types.model ls q)
      ∙ ap (λ cs. filled_here p.types.model (first_cell D p b) (zero_byte D p b) q (leaf_at ls q)
      (is_in_leaf p.types.model ls q) ++ cs) (first_is b ls (q + 1) n)
    where
      at_once : (o : Option Scalar) (t : Bool) → first_here D p b q o t ++ first_from D p b ls (q + 1) n
          ≡ filled_here p.types.model (first_cell D p b) (zero_byte D p b) q o t ++ first_from D p b ls (q + 1) n
      at_once (Some w) t = refl
      at_once None true = refl
      at_once None false = refl

  -- a cell of a first value
  pub record IsFirst (c : Cell N) : Type 0 where
    pub number : ℕ
    pub object : Block
    pub here : slice_get p.blocks number ≡ Some object
    pub shown : (object.global || is_result (main_result D p) number) ≡ true
    pub filled : IsFilled p.types.model (first_cell D p number) (zero_byte D p number)
        (table.leaves p.types object.ty) 0 object.size c

  of_block : (b : ℕ) (x : Block) (c : Cell N) → slice_get p.blocks b ≡ Some x → (t : Bool)
      → (x.global || is_result (main_result D p) b) ≡ t
      → IsIn c (if t then first_from D p b (table.leaves p.types x.ty) 0 x.size else []) → IsFirst c
  of_block b x c at false e i = elim i [ ]
  of_block b x c at true e i = record {
    number = b;
    object = x;
    here = at;
    shown = e;
    filled = made p.types.model (first_cell D p b) (zero_byte D p b) (table.leaves p.types x.ty) 0 x.size c
        (subst (IsIn c) (first_is b (table.leaves p.types x.ty) 0 x.size) i);
  }

  of_blocks : (b : ℕ) (xs : List Block)
      → ((i : ℕ) (x : Block) → slice_get xs i ≡ Some x → slice_get p.blocks (b + i) ≡ Some x)
      → (c : Cell N) → IsIn c (first_of_blocks D p b xs) → IsFirst c
  of_blocks b [] h c i = elim i [ ]
  of_blocks b (x ∷ xs) h c i =
      let at : slice_get p.blocks b ≡ Some x = subst (λ n. slice_get p.blocks n ≡ Some x) (omega arith) (h 0 x refl) in
      ⊎_elim (λ j. of_block b x c at (x.global || is_result (main_result D p) b) refl j)
      (λ j. of_blocks (b + 1) xs
      (λ i y e. subst (λ n. slice_get p.blocks n ≡ Some y) (next b i) (h (suc i) y e)) c j)
      (in_append c (first_of_block D p b x) (first_of_blocks D p (b + 1) xs) i)
    where
      next : (b i : ℕ) → b + suc i ≡ b + 1 + i
      next b i = omega arith

  pub is_first : (c : Cell N) → IsIn c (first_of_blocks D p 0 p.blocks) → IsFirst c
  is_first c i = of_blocks 0 p.blocks (λ i x e. subst (λ n. slice_get p.blocks n ≡ Some x) (omega arith) e) c i

  -- ---- each cell is one of a leaf, or of one byte

  abbrev pub IsOne : ℕ → (offset : ℕ) → Scalar → Type 0
  IsOne b q w =
      (x : Block) → slice_get p.blocks b ≡ Some x → (leaf_at (table.leaves p.types x.ty) q ≡ Some w) ⊎ (w ≡ Int U8)

  abbrev IsOneCell : Cell N → Type 0
  IsOneCell c = IsOne c.block c.offset c.what

  one_of : (b : ℕ) (o : Option Block) (q : ℕ) (w : Scalar) → slice_get p.blocks b ≡ o
      → (leaf_at (leaves_in D p o) q ≡ Some w) ⊎ (w ≡ Int U8) → IsOne b q w
  one_of b o q w e h x f =
      let same : o ≡ Some x = sym e ∙ f in
      subst (λ z. (leaf_at (leaves_in D p z) q ≡ Some w) ⊎ (w ≡ Int U8)) same h

  first_one : (c : Cell N) → IsFirst c → IsOneCell c
  first_one c f = by f.filled
    where
      by : IsFilled p.types.model (first_cell D p f.number) (zero_byte D p f.number)
          (table.leaves p.types f.object.ty) 0 f.object.size c → IsOneCell c
      by (of_leaf o w l h e is) =
          subst IsOneCell (sym is) (leaf w e)
        where
          leaf : (w : Scalar) → leaf_at (table.leaves p.types f.object.ty) o ≡ Some w
              → IsOneCell (first_cell D p f.number o w)
          leaf w e = one_of f.number (Some f.object) o w f.here (inl e)
      by (of_byte o l h e t is) =
          subst IsOneCell (sym is) (one_of f.number (Some f.object) o (Int U8) f.here (inr refl))

  new_is : (b : ℕ) (ls : List Leaf) (q n : ℕ) → cells_from {N = N} p.types.model Shared b ls q n
      ≡ filled_from p.types.model (undefined_cell Shared b) (λ o. undefined_cell Shared b o (Int U8)) ls q n
  new_is b ls q zero = refl
  new_is b ls q (suc n) =
      at_once (leaf_at ls q) (is_in_leaf p.types.model ls q)
      ∙ ap (λ cs. filled_here p.types.model (undefined_cell Shared b) (λ o. undefined_cell Shared b o (Int U8)) q
      (leaf_at ls q) (is_in_leaf p.types.model ls q) ++ cs) (new_is b ls (q + 1) n)
    where
      at_once : (o : Option Scalar) (t : Bool)
          → cell_here {N = N} Shared b q o t ++ cells_from p.types.model Shared b ls (q + 1) n
          ≡ filled_here p.types.model (undefined_cell Shared b) (λ o. undefined_cell Shared b o (Int U8)) q o t
          ++ cells_from p.types.model Shared b ls (q + 1) n
      at_once (Some w) t = refl
      at_once None true = refl
      at_once None false = refl

  new_one : (b : ℕ) (o : Option Block) (n : ℕ) (c : Cell N) → slice_get p.blocks b ≡ o
      → IsIn c (cells_from p.types.model Shared b (leaves_in D p o) 0 n) → IsOneCell c
  new_one b o n c e i =
      by (made p.types.model (undefined_cell Shared b) (λ o. undefined_cell Shared b o (Int U8)) (leaves_in D p o) 0 n c
      (subst (IsIn c) (new_is b (leaves_in D p o) 0 n) i))
    where
      by : IsFilled p.types.model (undefined_cell Shared b) (λ o. undefined_cell Shared b o (Int U8))
          (leaves_in D p o) 0 n c → IsOneCell c
      by (of_leaf q w l h f is) = subst IsOneCell (sym is) (one_of b o q w e (inl f))
      by (of_byte q l h f t is) = subst IsOneCell (sym is) (one_of b o q (Int U8) e (inr refl))

  after_one : (b : ℕ) (x y : Cell N) → AfterKill Shared b x y → IsOneCell x → IsOneCell y
  after_one b x y (away e f g) h = subst IsOneCell (sym e) h
  after_one b x y (alive r e i) h = subst IsOneCell (sym e) h
  after_one b x y (lost f g k) h = subst IsOneCell (sym k.is) h

  abbrev AreOnes : Known N → Type 0
  AreOnes k = (k.model ≡ p.types.model) × ((c : Cell N) → IsIn c k.cells → IsOneCell c)

  block_ones : (b : ℕ) (k : Known N) → AreOnes k → AreOnes (killed_block D p Shared b (slice_get p.blocks b) k)
  block_ones b k h = (h.0, each)
    where
      o : Option Block
      o = slice_get p.blocks b

      each : (c : Cell N) → IsIn c (killed_block D p Shared b (slice_get p.blocks b) k).cells → IsOneCell c
      each c i =
          let m = in_map (reformed (fate_by_kill Shared b)) c _ i in
          subst IsOneCell (sym m.is)
          (⊎_elim
          (λ j. new_one b (slice_get p.blocks b) (bytes_in D p (slice_get p.blocks b)) m.origin refl
          (subst (λ d. IsIn m.origin (entry_cells d Shared b (leaves_in D p (slice_get p.blocks b))
          (bytes_in D p (slice_get p.blocks b)))) h.0 j))
          (λ j. (let f = in_each (left_by_kill Shared b) m.origin k.cells j in
          after_one b f.origin m.origin (after_kill Shared b f.origin m.origin f.becomes) (h.1 f.origin f.is_in)))
          (in_put_all (entry_cells k.model Shared b (leaves_in D p (slice_get p.blocks b))
          (bytes_in D p (slice_get p.blocks b))) m.origin (each_becomes (left_by_kill Shared b) k.cells) m.is_in))

  all_ones : (bs : List ℕ) (k : Known N) → AreOnes k → AreOnes (killed_blocks D p Shared bs k)
  all_ones [] k h = h
  all_ones (b ∷ bs) k h = all_ones bs (killed_block D p Shared b (slice_get p.blocks b) k) (block_ones b k h)

  -- such a cell lies in one number
  lies_by : (b q u : ℕ) (w : Scalar) → IsOne b q w → unit_in p b ≡ Some u → LieInOne p u q (size_of p.types.model w)
  lies_by b q u w h e = by_block (slice_get p.blocks b) refl e
    where
      at_type : (x : Block) → slice_get p.blocks b ≡ Some x → (y : Ty) → slice_get p.types.types x.ty ≡ Some y
          → unit_of p y ≡ Some u → LieInOne p u q (size_of p.types.model w)
      at_type x at y typed n =
          let g = unit_numbers p x.ty u y typed n in
          ⊎_elim
          (λ l.
          let c = on_grid g.i (table.leaves p.types x.ty) q w g.grid l in
          let size : size_of p.types.model w ≡ u = ap (size_of p.types.model) c.what ∙ g.bytes in
          let place : q ≡ c.index * u = c.at ∙ ap (λ z. c.index * z) g.bytes in
          record { index = c.index; low = omega (arith, place); high = omega (arith, place, size) })
          (λ l.
          let more : 0 < u = subst (λ z. 0 < z) g.bytes (bytes_of_positive g.i) in
          let c = in_unit u q more in
          let size : size_of p.types.model w ≡ 1 = ap (size_of p.types.model) l in
          let a = c.low in
          let d = c.high in
          record { index = c.index; low = a; high = omega (arith, d, size) })
          (h x at)

      by_type : (x : Block) → slice_get p.blocks b ≡ Some x → (y : Option Ty) → slice_get p.types.types x.ty ≡ y
          → option_and_then (unit_of p) y ≡ Some u → LieInOne p u q (size_of p.types.model w)
      by_type x at None f n = absurd (let c : None ≡ Some u = n in cc)
      by_type x at (Some y) f n = at_type x at y f n

      by_block : (o : Option Block) → slice_get p.blocks b ≡ o
          → option_and_then (λ (x : Block). option_and_then (unit_of p) (slice_get p.types.types x.ty)) o ≡ Some u
          → LieInOne p u q (size_of p.types.model w)
      by_block None f n = absurd (let c : None ≡ Some u = n in cc)
      by_block (Some x) f n = by_type x f (slice_get p.types.types x.ty) refl n

  pub lies : (bs : List ℕ) (k : Known N) → k.model ≡ p.types.model → k.cells ≡ first_of_blocks D p 0 p.blocks
      → (c : Cell N) → IsIn c (killed_blocks D p Shared bs k).cells → LiesInOne p p.types.model c
  lies bs k model cells c i u e =
      let h : AreOnes k = (model, λ z j. first_one z (is_first z (subst (IsIn z) cells j))) in
      lies_by c.block c.offset u c.what ((all_ones bs k h).1 c i) e

  -- ---- cells of first values stay

  -- the cell of a number at a place
  abbrev pub told : (block offset : ℕ) → IntType → ℤ → Cell N
  told b q t v = record {
    side = Shared;
    block = b;
    offset = q;
    what = Int t;
    value = Some (Num (D.single v));
    maybe = false;
    form = constant_form t v;
  }

  module _ (base : Inputs) (b q : ℕ) (t : IntType) (v : ℤ) where
    all_fixed : (k n : ℕ) (f : _) → AllStay base f (fixed_bytes v k n)
    all_fixed k zero f = tt
    all_fixed k (suc n) f = (tt, all_fixed (suc k) n f)

    kept_one : (a : ℕ) (o : Option Block) (k : Known N) → nat_eq b a ≡ false → IsIn (told b q t v) k.cells
        → IsIn (told b q t v) (killed_block D p Shared a o k).cells
    kept_one a o k e i =
        subst (λ z. IsIn (record (told b q t v) { form = z }) (killed_block D p Shared a o k).cells)
        (form_kept base (fate_by_kill Shared a) (constant_form t v) (fixed_bytes v 0 (bytes_of t))
        ((forms_follow base).constant t v) (all_fixed 0 (bytes_of t) (fate_by_kill Shared a)))
        (map_in (reformed (fate_by_kill Shared a)) (told b q t v) _
        (put_all_keeps (entry_cells k.model Shared a (leaves_in D p o) (bytes_in D p o)) (told b q t v) (each_becomes
        (left_by_kill Shared a) k.cells)
        (each_in (left_by_kill Shared a) (told b q t v) (told b q t v) k.cells i stays)))
      where
        stays : IsIn (told b q t v) (left_by_kill Shared a (told b q t v))
        stays =
            subst (λ x. IsIn (told b q t v) (cond x (with_side (told b q t v) (side_without Shared Shared))
            (told b q t v ∷ []))) (sym e) (first [])

    pub kept : (bs : List ℕ) (k : Known N) → contains b bs ≡ false → IsIn (told b q t v) k.cells
        → IsIn (told b q t v) (killed_blocks D p Shared bs k).cells
    kept [] k h i = i
    kept (a ∷ bs) k h i =
        by (nat_eq b a) refl h
        (λ g j. kept bs (killed_block D p Shared a (slice_get p.blocks a) k) g j)
      where
        by : (x : Bool) → nat_eq b a ≡ x → (x || contains b bs) ≡ false
            → (contains b bs ≡ false → IsIn (told b q t v) (killed_block D p Shared a (slice_get p.blocks a) k).cells
            → IsIn (told b q t v) (killed_blocks D p Shared bs (killed_block D p Shared a (slice_get p.blocks a) k)).cells)
            → IsIn (told b q t v) (killed_blocks D p Shared bs (killed_block D p Shared a (slice_get p.blocks a) k)).cells
        by true f g go = absurd (cc)
        by false f g go = go g (kept_one a (slice_get p.blocks a) k f i)
