-- First values are cells: of each leaf of a block, and of each byte outside of all leaves.
use Rattle.std.proofs.Common.{◌≡◌, ℕ, zero, suc, ◌+◌, ◌<◌, ◌≤◌, ℤ, pos, Bool, true, false, ◌||◌, if◌then◌else◌, List}
use Rattle.std.proofs.Common.{[], ◌∷◌, ◌++◌, ⊎_elim, slice_get, Option, Some, None, unwrap_or, refl, sym, ap, ◌∙◌}
use Rattle.std.proofs.Common.{subst, arith}
use Rattle.ep_int.specs.declared.types.IntType.{IntType}
use Rattle.ep_int.specs.declared.types.IntType.TheVariants.{U8}
use Rattle.ep_int.specs.declared.types.Order.{Order}
use Rattle.ep_int.specs.declared.types.Scalar.{Scalar}
use Rattle.ep_int.specs.declared.types.Scalar.TheVariants.{Int, Pointer}
use Rattle.ep_int.specs.Memory.{int, has}
use Rattle.ep_int.specs.Types.{bits_of, representation, wrapped}
use Rattle.ep_int.proofs.Wrapping.{representation_below, wrapped_in_range, representation_represented}
use Rattle.ep_layout.specs.declared.types.Leaf.{Leaf}
use Rattle.ep_layout.specs.Table as table
use Rattle.ep_bitslice.specs.declared.cell.Side.TheVariants.{Shared}
use Rattle.ep_bitslice.specs.declared.segment.Segment.TheVariants.{Fixed}
use Rattle.ep_domain.specs.Domain.{Ops, Lawful}
use Rattle.ep_cells.specs.declared.cell.Cell.{Cell}
use Rattle.ep_cells.specs.Cells.{IsIn}
use Rattle.ep_cells.specs.Kill.{leaf_at, is_in_leaf}
use Rattle.ep_cells.specs.States.{Known, AreCells}
use Rattle.ep_cells.proofs.Lists.{in_append}
use Rattle.ep_reads.specs.Laws.{IsFormRead}
use Rattle.ep_cell_ranges.specs.First.{filled_here, filled_from}
use Rattle.ep_cell_ranges.specs.Sound.{IsMade, AreMade, IsFilled, of_leaf, of_byte}
use Rattle.ep_cell_ranges.proofs.Firsts.{of_firsts}
use Rattle.ep_core.specs.Program.{Block, Program}
use Rattle.ep_core.specs.Runs.{Side, left, is_result}
use Rattle.ep_core.specs.WellFormed.{is_well_formed}
use Rattle.ep_core.proofs.Operands.{sizes as blocks_of}
use Rattle.ep_equalities.specs.declared.pair.Mode.TheVariants.{Both}
use Rattle.ep_evaluation.specs.Laws.{IsState}
use Rattle.ep_evaluation.proofs.Conversions.{constant_sound}
use Rattle.ep_transfers.specs.Cells.{empty_known}
use Rattle.ep_transfers.specs.Ends.{value_in, first_cell, zero_byte, first_here, first_from, main_result, first_of_block}
use Rattle.ep_transfers.specs.Ends.{first_of_blocks}
use Rattle.ep_transfers.proofs.Kills.{room}

module _ {N : Type 0} (D : Ops N) (law : Lawful D) (p : Program) (ord : Side → Order)
    (formed : is_well_formed p ≡ true) where
  no_cells : AreCells {N = N} p.types.model []
  no_cells = record { each = λ c i. elim i [ ]; pairs = tt; forms = λ c i. elim i [ ] }

  empty_state : IsState D p ord (empty_known D p ord)
  empty_state = record { orders = refl; model = refl; cells = no_cells }

  constant_form_fits : (t : IntType) (v : ℤ)
      → IsFormRead {N = N} [] (Int t) false (Fixed (representation t v) (bits_of t) ∷ [])
  constant_form_fits t v =
      let s = constant_sound D law p ord t (wrapped t v) (wrapped_in_range t v) (λ s m. has (int (wrapped t v)))
      (λ s m. refl) in
      subst (λ r. IsFormRead {N = N} [] (Int t) false (Fixed r (bits_of t) ∷ []))
      (representation_represented t (representation t v) (representation_below t v))
      (s.fits (empty_known D p ord) empty_state Both left).form

  leaf_made : (b q : ℕ) (w : Scalar) → IsMade p.types.model Shared b q w (first_cell D p b q w)
  leaf_made b q (Int t) =
      let f = constant_form_fits t (unwrap_or (value_in D p p.init b q) (pos 0)) in
      record {
        placed = record { side = refl; block = refl; offset = refl; what = refl };
        cell = λ l. record { fits = record { sort = tt; undefined = λ e. absurd (cc); last = l }; rising = tt };
        form = record { sure = refl; wide = f.wide; form = f.form; mentioned = f.mentioned };
      }
  leaf_made b q Pointer = record {
    placed = record { side = refl; block = refl; offset = refl; what = refl };
    cell = λ l. record { fits = record { sort = tt; undefined = λ e. absurd (cc); last = l }; rising = tt };
    form = tt;
  }

  byte_made : (b q : ℕ) → IsMade p.types.model Shared b q (Int U8) (zero_byte D p b q)
  byte_made b q =
      let f = constant_form_fits U8 (pos 0) in
      record {
        placed = record { side = refl; block = refl; offset = refl; what = refl };
        cell = λ l. record { fits = record { sort = tt; undefined = λ e. absurd (cc); last = l }; rising = tt };
        form = record { sure = refl; wide = f.wide; form = f.form; mentioned = f.mentioned };
      }

  pub first_filled : (b : ℕ) (ls : List Leaf) (q n : ℕ)
      → first_from D p b ls q n ≡ filled_from p.types.model (first_cell D p b) (zero_byte D p b) ls q n
  first_filled b ls q zero = refl
  first_filled b ls q (suc n) =
      at_once (leaf_at ls q) (is_in_leaf p.types.model ls q)
      ∙ ap (λ cs. filled_here p.types.model (first_cell D p b) (zero_byte D p b) q (leaf_at ls q)
      (is_in_leaf p.types.model ls q) ++ cs) (first_filled b ls (q + 1) n)
    where
      at_once : (o : Option Scalar) (t : Bool) → first_here D p b q o t ++ first_from D p b ls (q + 1) n
          ≡ filled_here p.types.model (first_cell D p b) (zero_byte D p b) q o t ++ first_from D p b ls (q + 1) n
      at_once (Some w) t = refl
      at_once None true = refl
      at_once None false = refl

  pub first_made : (b : ℕ) (ls : List Leaf) (q n : ℕ) (c : Cell N) → IsIn c (first_from D p b ls q n)
      → IsFilled p.types.model (first_cell D p b) (zero_byte D p b) ls q n c
  first_made b ls q n c i =
      (of_firsts D).made p.types.model (first_cell D p b) (zero_byte D p b) ls q n c
      (subst (IsIn c) (first_filled b ls q n) i)

  in_its_block : (b q n : ℕ) (ls : List Leaf) (c : Cell N)
      → IsFilled p.types.model (first_cell D p b) (zero_byte D p b) ls q n c → c.block ≡ b
  in_its_block b q n ls c (of_leaf o w l h e is) = ap (λ (z : Cell N). z.block) is
  in_its_block b q n ls c (of_byte o l h e t is) = ap (λ (z : Cell N). z.block) is

  -- ---- all blocks

  record OfOne (b : ℕ) (cs : List (Cell N)) : Type 0 where
    cells : AreCells p.types.model cs
    block : (c : Cell N) → IsIn c cs → c.block ≡ b

  pub record OfMore (b : ℕ) (cs : List (Cell N)) : Type 0 where
    pub cells : AreCells p.types.model cs
    pub from : (c : Cell N) → IsIn c cs → b ≤ c.block

  of_one : (b : ℕ) (x : Block) → slice_get p.blocks b ≡ Some x → (t : Bool)
      → OfOne b (if t then first_from D p b (table.leaves p.types x.ty) 0 x.size else [])
  of_one b x at false = record { cells = no_cells; block = λ c i. elim i [ ] }
  of_one b x at true =
      let ls = table.leaves p.types x.ty in
      let r = room D p ord (blocks_of p formed) b (Some x) at in
      record {
        cells =
            subst (AreCells p.types.model) (sym (first_filled b ls 0 x.size))
            ((of_firsts D).cells p.types.model Shared b (first_cell D p b) (zero_byte D p b) ls x.size r.leaves r.small
            (record { leaves = leaf_made b; bytes = byte_made b }));
        block = λ c i. in_its_block b 0 x.size ls c (first_made b ls 0 x.size c i);
      }

  pub of_all : (b : ℕ) (xs : List Block)
      → ((i : ℕ) (x : Block) → slice_get xs i ≡ Some x → slice_get p.blocks (b + i) ≡ Some x)
      → OfMore b (first_of_blocks D p b xs)
  of_all b [] h = record { cells = no_cells; from = λ c i. elim i [ ] }
  of_all b (x ∷ xs) h =
      let here = first_of_block D p b x in
      let more = first_of_blocks D p (b + 1) xs in
      let at : slice_get p.blocks b ≡ Some x = subst (λ n. slice_get p.blocks n ≡ Some x) (omega arith) (h 0 x refl) in
      let a = of_one b x at (x.global || is_result (main_result D p) b) in
      let r = of_all (b + 1) xs
      (λ i y e. subst (λ n. slice_get p.blocks n ≡ Some y) (next i) (h (suc i) y e)) in
      record {
        cells =
            (of_firsts D).beside p.types.model here more a.cells r.cells
            (λ y z i j. below (a.block y i) (r.from z j));
        from = λ c i.
            ⊎_elim (λ j. (let e = a.block c j in omega (arith, e))) (λ j. (let e = r.from c j in omega (arith, e)))
            (in_append c here more i);
      }
    where
      next : (i : ℕ) → b + suc i ≡ b + 1 + i
      next i = omega arith

      below : {c d : ℕ} → c ≡ b → b + 1 ≤ d → c < d
      below e l = omega (arith, e, l)
