-- The first cells of all blocks are cells of a state.
use Rattle.std.proofs.Common.{◌≡◌, ℕ, zero, suc, ◌+◌, ◌<◌, ◌≤◌, ℤ, pos, Bool, true, false, ◌||◌, if◌then◌else◌, List}
use Rattle.ep_evaluation.proofs.Conversions.{nothing_fixed}
use Rattle.std.proofs.Common.{[], ◌∷◌, ◌++◌, ⊎_elim, slice_get, Option, Some, None, unwrap_or, refl, sym, ap, ◌∙◌}
use Rattle.std.proofs.Common.{subst, arith}
use Rattle.ep_int.specs.declared.types.IntType.{IntType}
use Rattle.ep_int.specs.declared.types.IntType.TheVariants.{U8}
use Rattle.ep_int.specs.declared.types.Order.TheVariants.{Little}
use Rattle.ep_int.specs.declared.types.Scalar.{Scalar}
use Rattle.ep_int.specs.declared.types.Scalar.TheVariants.{Int, Pointer}
use Rattle.ep_int.specs.Types.{bits_of, representation}
use Rattle.ep_int.proofs.Wrapping.{bytes_of_positive, representation_below}
use Rattle.ep_layout.specs.declared.types.Leaf.{Leaf}
use Rattle.ep_layout.specs.Table as table
use Rattle.ep_bitslice.specs.declared.cell.Side.TheVariants.{Shared}
use Rattle.ep_bitslice.specs.declared.segment.Segment.TheVariants.{Fixed}
use Rattle.ep_domain.specs.Domain.{Ops}
use Rattle.ep_cells.specs.declared.cell.Cell.{Cell}
use Rattle.ep_cells.specs.Cells.{IsIn}
use Rattle.ep_cells.specs.Kill.{leaf_at, is_in_leaf}
use Rattle.ep_cells.specs.States.{IsFormOf, AreCells}
use Rattle.ep_cells.proofs.Lists.{in_append}
use Rattle.ep_reads.proofs.Numbers.{at_most_eight}
use Rattle.ep_core.specs.Program.{Block, Program}
use Rattle.ep_core.specs.Runs.{Side, is_result}
use Rattle.ep_core.specs.WellFormed.{is_well_formed}
use Rattle.ep_core.proofs.Operands.{sizes}
use Rattle.ep_cell_ranges.specs.First.{filled_here, filled_from}
use Rattle.ep_cell_ranges.specs.Sound.{IsMade, AreMade, IsFilled, of_leaf, of_byte}
use Rattle.ep_cell_ranges.proofs.Firsts.{of_firsts}
use Rattle.ep_transfers.specs.Ends.{value_in, first_cell, zero_byte, first_here, first_from, main_result}
use Rattle.ep_transfers.specs.Ends.{first_of_block, first_of_blocks}
use Rattle.ep_transfers.proofs.Kills.{room}

-- ---- forms of constants

module _ {N : Type 0} (D : Ops N) (p : Program) where
  form_of : (t : IntType) (v : ℤ) (c : Cell N) → c.what ≡ Int t → c.maybe ≡ false
      → IsFormOf [] c (Fixed (representation t v) (bits_of t) ∷ [])
  form_of t v c w s =
      let l = bytes_of_positive t in
      let h = at_most_eight t in
      record {
        sure = s;
        wide = rw w (let e : bits_of t ≡ bits_of t + 0 = omega arith in e);
        form = record {
          segments = ((omega (arith, l), omega (arith, h), representation_below t v), tt);
          apart = (tt, tt);
          few = omega arith;
          short = omega (arith, h);
        };
        mentioned = λ n h.
            absurd (let e : true ≡ false = sym h ∙ nothing_fixed n (bits_of t) (representation t v) in cc);
      }

  made_leaf : (b q : ℕ) (w : Scalar) → IsMade p.types.model Shared b q w (first_cell D p b q w)
  made_leaf b q (Int t) = record {
    placed = record { side = refl; block = refl; offset = refl; what = refl };
    cell = λ l. record { fits = record { sort = tt; undefined = λ e. absurd (cc); last = l }; rising = tt };
    form = form_of t (unwrap_or (value_in D p p.init b q) (pos 0)) (first_cell D p b q (Int t)) refl refl;
  }
  made_leaf b q Pointer = record {
    placed = record { side = refl; block = refl; offset = refl; what = refl };
    cell = λ l. record { fits = record { sort = tt; undefined = λ e. absurd (cc); last = l }; rising = tt };
    form = tt;
  }

  made_byte : (b q : ℕ) → IsMade p.types.model Shared b q (Int U8) (zero_byte D p b q)
  made_byte b q = record {
    placed = record { side = refl; block = refl; offset = refl; what = refl };
    cell = λ l. record { fits = record { sort = tt; undefined = λ e. absurd (cc); last = l }; rising = tt };
    form = form_of U8 (pos 0) (zero_byte D p b q) refl refl;
  }

  all_made : (b : ℕ) → AreMade p.types.model Shared b (first_cell D p b) (zero_byte D p b)
  all_made b = record { leaves = made_leaf b; bytes = made_byte b }

  -- ---- one block

  filled_is : (b : ℕ) (ls : List Leaf) (q n : ℕ)
      → first_from D p b ls q n ≡ filled_from p.types.model (first_cell D p b) (zero_byte D p b) ls q n
  filled_is b ls q zero = refl
  filled_is b ls q (suc n) =
      here_is (leaf_at ls q) (is_in_leaf p.types.model ls q)
      ∙ ap (λ cs. filled_here p.types.model (first_cell D p b) (zero_byte D p b) q (leaf_at ls q)
      (is_in_leaf p.types.model ls q) ++ cs) (filled_is b ls (q + 1) n)
    where
      here_is : (o : Option Scalar) (t : Bool) → first_here D p b q o t ++ first_from D p b ls (q + 1) n
          ≡ filled_here p.types.model (first_cell D p b) (zero_byte D p b) q o t ++ first_from D p b ls (q + 1) n
      here_is (Some w) t = refl
      here_is None true = refl
      here_is None false = refl

  in_block : (b q n : ℕ) (ls : List Leaf) (c : Cell N)
      → IsFilled p.types.model (first_cell D p b) (zero_byte D p b) ls q n c → c.block ≡ b
  in_block b q n ls c (of_leaf o w l h e is) = ap (λ (z : Cell N). z.block) is
  in_block b q n ls c (of_byte o l h e t is) = ap (λ (z : Cell N). z.block) is

  record IsFirst (b : ℕ) (cs : List (Cell N)) : Type 0 where
    cells : AreCells p.types.model cs
    block : (c : Cell N) → IsIn c cs → c.block ≡ b

  no_cells : AreCells {N = N} p.types.model []
  no_cells = record { each = λ c i. elim i [ ]; pairs = tt; forms = λ c i. elim i [ ] }

  module _ (formed : is_well_formed p ≡ true) where
    first_by : (b : ℕ) (x : Block) → slice_get p.blocks b ≡ Some x → (t : Bool)
        → IsFirst b (if t then first_from D p b (table.leaves p.types x.ty) 0 x.size else [])
    first_by b x at false = record { cells = no_cells; block = λ c i. elim i [ ] }
    first_by b x at true =
        let ls = table.leaves p.types x.ty in
        let r = room D p (λ (s : Side). Little) (sizes p formed) b (Some x) at in
        let f = of_firsts D in
        subst (IsFirst b) (sym (filled_is b ls 0 x.size))
        (record {
          cells = f.cells p.types.model Shared b (first_cell D p b) (zero_byte D p b) ls x.size r.leaves r.small
              (all_made b);
          block = λ c i. in_block b 0 x.size ls c
              (f.made p.types.model (first_cell D p b) (zero_byte D p b) ls 0 x.size c i);
        })

    -- ---- all blocks, from one on

    record AreFirst (b : ℕ) (cs : List (Cell N)) : Type 0 where
      cells : AreCells p.types.model cs
      from : (c : Cell N) → IsIn c cs → b ≤ c.block

    at_more : (b i : ℕ) → b + 1 + i ≡ b + suc i
    at_more b i = omega arith

    below_next : (b c d : ℕ) → c ≡ b → b + 1 ≤ d → c < d
    below_next b c d e h = omega (arith, e, h)

    all_first : (b : ℕ) (xs : List Block)
        → ((i : ℕ) (x : Block) → slice_get xs i ≡ Some x → slice_get p.blocks (b + i) ≡ Some x)
        → AreFirst b (first_of_blocks D p b xs)
    all_first b [] h = record { cells = no_cells; from = λ c i. elim i [ ] }
    all_first b (x ∷ xs) h =
        let here = first_of_block D p b x in
        let more = first_of_blocks D p (b + 1) xs in
        let at : slice_get p.blocks b ≡ Some x =
        subst (λ n. slice_get p.blocks n ≡ Some x) (omega arith) (h 0 x refl) in
        let a = first_by b x at (x.global || is_result (main_result D p) b) in
        let r = all_first (b + 1) xs
        (λ i y e. subst (λ n. slice_get p.blocks n ≡ Some y) (sym (at_more b i)) (h (suc i) y e)) in
        record {
          cells = (of_firsts D).beside p.types.model here more a.cells r.cells
              (λ y z i j. below_next b y.block z.block (a.block y i) (r.from z j));
          from = λ c i.
              ⊎_elim (λ j. (let e = a.block c j in omega (arith, e))) (λ j. (let e = r.from c j in omega (arith, e)))
              (in_append c here more i);
        }

    pub first_are_cells : AreCells p.types.model (first_of_blocks D p 0 p.blocks)
    first_are_cells =
        (all_first 0 p.blocks (λ i x e. subst (λ n. slice_get p.blocks n ≡ Some x) (omega arith) e)).cells
