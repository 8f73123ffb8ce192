-- First cells are cells of one value each, and say what the blocks of the first memories have.
use Rattle.std.proofs.Common.{◌≡◌, ℕ, zero, suc, ◌+◌, ◌<◌, ◌≤◌, ℤ, pos, Bool, true, false, ◌||◌, if◌then◌else◌, List}
use Rattle.std.proofs.Common.{[], ◌∷◌, ◌++◌, ⊎_elim, slice_get, Option, Some, None, IfSome, unwrap_or, refl, sym, ap}
use Rattle.std.proofs.Common.{◌∙◌, subst, arith}
use Rattle.ep_int.proofs.Arithmetic.{zero_in_range, in_range_some_type}
use Rattle.ep_int.proofs.Wrapping.{representation_below, wrapped_in_range, representation_represented}
use Rattle.ep_int.specs.declared.types.IntType.{IntType}
use Rattle.ep_int.specs.declared.types.IntType.TheVariants.{U8}
use Rattle.ep_int.specs.declared.types.Order.{Order}
use Rattle.ep_int.specs.declared.types.Scalar.{Scalar}
use Rattle.ep_int.specs.declared.types.Scalar.TheVariants.{Int, Pointer}
use Rattle.ep_int.specs.Types.{bits_of, size_of, InRange, representation, wrapped}
use Rattle.ep_int.specs.Memory.{undefined, int, null, has}
use Rattle.ep_layout.specs.declared.types.Leaf.{Leaf}
use Rattle.ep_layout.specs.Table as table
use Rattle.ep_bitslice.specs.declared.cell.Side.TheVariants.{Shared}
use Rattle.ep_bitslice.specs.declared.segment.Segment.TheVariants.{Fixed}
use Rattle.ep_domain.specs.Domain.{Ops, Lawful}
use Rattle.ep_pointers.specs.Value.{null_alone, only_null}
use Rattle.ep_cells.specs.declared.cell.Cell.{Cell}
use Rattle.ep_cells.specs.declared.cell.Value.TheVariants.{Num}
use Rattle.ep_cells.specs.Cells.{IsIn}
use Rattle.ep_cells.specs.Kill.{leaf_at, is_in_leaf}
use Rattle.ep_cells.specs.States.{AreCells}
use Rattle.ep_cells.specs.Meaning.{Memories, Has, Says, FormSays, numbers_of}
use Rattle.ep_cells.proofs.Lists.{in_append}
use Rattle.ep_reads.specs.Laws.{IsFormRead}
use Rattle.ep_cell_ranges.specs.First.{filled_here, filled_from}
use Rattle.ep_cell_ranges.specs.Sound.{IsMade, AreMade, IsFilled, of_leaf, of_byte}
use Rattle.ep_cell_ranges.proofs.Firsts.{of_firsts}
use Rattle.ep_core.specs.Program.{Block, Program}
use Rattle.ep_core.specs.Exec.{size_at, block_size}
use Rattle.ep_core.specs.Runs.{Side, left, right, is_result, initial}
use Rattle.ep_core.specs.Typed.{MemoryFits}
use Rattle.ep_core.specs.WellFormed.{is_well_formed}
use Rattle.ep_core.proofs.Bytes.{initial_bytes}
use Rattle.ep_core.proofs.Operands.{sizes, first_values_fit}
use Rattle.ep_equalities.specs.declared.pair.Mode.TheVariants.{Both}
use Rattle.ep_equalities.specs.declared.pair.SideValue.{SideValue}
use Rattle.ep_equalities.specs.Pairs.{SideIn}
use Rattle.ep_evaluation.specs.Operators.{constant_form}
use Rattle.ep_evaluation.specs.Laws.{memory_of, IsKept}
use Rattle.ep_evaluation.proofs.Conversions.{constant_sound}
use Rattle.ep_transfers.specs.Cells.{empty_known}
use Rattle.ep_transfers.specs.Ends.{value_in, first_cell, zero_byte, first_here, first_from, main_result}
use Rattle.ep_transfers.specs.Ends.{first_of_block, first_of_blocks}
use Rattle.ep_transfers.specs.Laws.{memories}
use Rattle.ep_transfers.proofs.Assigned.{form_has}
use Rattle.ep_transfers.proofs.Guarded.{empty_stands}
use Rattle.ep_transfers.proofs.Kills.{room}
use Rattle.ep_transfers.proofs.Sides.{form_says}
use Rattle.ep_transfers.proofs.FirstCells.{first_datum, leaf_bytes, leaf_range, outer_byte}
use Rattle.ep_singles.specs.Cells.{IsOneCell, one_value, one_number, one_pointer}
use Rattle.ep_single_restricted.specs.Restricted.{restricted}
use Rattle.ep_single_restricted.proofs.Bytes.{restricted_fits, byte_there}
use Rattle.ep_single_entry.proofs.Covered.{leaf_ends}

module _ {N : Type 0} (D : Ops N) (law : Lawful D) (p : Program) (ord : Side → Order)
    (formed : is_well_formed p ≡ true) where
  -- what the blocks of the first memories have
  abbrev pub first_memories : Memories
  first_memories = memories (restricted p (initial (ord left) p)) (restricted p (initial (ord right) p))

  abbrev os : Order × Order
  os = (ord left, ord right)

  first_fit : (s : Side) → MemoryFits p (memory_of s first_memories)
  first_fit left = restricted_fits p (initial (ord left) p) (initial_bytes p (ord left) (first_values_fit p formed))
  first_fit right = restricted_fits p (initial (ord right) p) (initial_bytes p (ord right) (first_values_fit p formed))

  none_kept : IsKept D p ord (empty_known D p ord) first_memories
  none_kept =
      let h = empty_stands D p ord first_memories.left first_memories.right in
      record { state = h.state; holds = h.holds; fits = first_fit }

  -- ---- numbers and their forms

  abbrev one_side : IntType → ℤ → SideValue N
  one_side t v = record { value = Some (Num (D.single v)); form = constant_form t v }

  one_held : (t : IntType) (v : ℤ) → InRange t v
      → SideIn D (numbers_of os first_memories) (Int t) (one_side t v) (int v)
  one_held t v i =
      ((constant_sound D law p ord t v i (λ s m. has (int v)) (λ s m. refl)).gives (empty_known D p ord)
      first_memories none_kept Both).held refl left refl (int v) refl

  -- the form of a number of the type that has the same bits
  one_form : (t : IntType) (v : ℤ) → IsFormRead {N = N} [] (Int t) false (Fixed (representation t v) (bits_of t) ∷ [])
  one_form t v =
      let s = constant_sound D law p ord t (wrapped t v) (wrapped_in_range t v) (λ s m. has (int (wrapped t v)))
      (λ s m. refl) in
      subst (λ r. IsFormRead {N = N} [] (Int t) false (Fixed r (bits_of t) ∷ []))
      (representation_represented t (representation t v) (representation_below t v))
      (s.fits (empty_known D p ord) none_kept.state Both left).form

  -- ---- what the cells of a block are made of

  leaf_from : (b q : ℕ) (w : Scalar) → IsMade p.types.model Shared b q w (first_cell D p b q w)
  leaf_from b q (Int t) =
      let f = one_form t (unwrap_or (value_in D p p.init b q) (pos 0)) in
      record {
        placed = record { side = refl; block = refl; offset = refl; what = refl };
        cell = λ l. record { fits = record { sort = tt; undefined = λ e. absurd (cc); last = l }; rising = tt };
        form = record { sure = refl; wide = f.wide; form = f.form; mentioned = f.mentioned };
      }
  leaf_from b q Pointer = record {
    placed = record { side = refl; block = refl; offset = refl; what = refl };
    cell = λ l. record { fits = record { sort = tt; undefined = λ e. absurd (cc); last = l }; rising = tt };
    form = tt;
  }

  byte_from : (b q : ℕ) → IsMade p.types.model Shared b q (Int U8) (zero_byte D p b q)
  byte_from b q =
      let f = one_form U8 (pos 0) in
      record {
        placed = record { side = refl; block = refl; offset = refl; what = refl };
        cell = λ l. record { fits = record { sort = tt; undefined = λ e. absurd (cc); last = l }; rising = tt };
        form = record { sure = refl; wide = f.wide; form = f.form; mentioned = f.mentioned };
      }

  all_from : (b : ℕ) → AreMade p.types.model Shared b (first_cell D p b) (zero_byte D p b)
  all_from b = record { leaves = leaf_from b; bytes = byte_from b }

  from_is : (b : ℕ) (ls : List Leaf) (q n : ℕ)
      → first_from D p b ls q n ≡ filled_from p.types.model (first_cell D p b) (zero_byte D p b) ls q n
  from_is b ls q zero = refl
  from_is b ls q (suc n) =
      at_once (leaf_at ls q) (is_in_leaf p.types.model ls q)
      ∙ ap (λ cs. filled_here p.types.model (first_cell D p b) (zero_byte D p b) q (leaf_at ls q)
      (is_in_leaf p.types.model ls q) ++ cs) (from_is b ls (q + 1) n)
    where
      at_once : (o : Option Scalar) (t : Bool) → first_here D p b q o t ++ first_from D p b ls (q + 1) n
          ≡ filled_here p.types.model (first_cell D p b) (zero_byte D p b) q o t ++ first_from D p b ls (q + 1) n
      at_once (Some w) t = refl
      at_once None true = refl
      at_once None false = refl

  -- ---- what they say

  pub record IsFirstCell (c : Cell N) : Type 0 where
    pub says : Says D os p.types.model first_memories c
    pub form : IfSome c.form (FormSays os first_memories c)
    pub one : IsOneCell D c

  module _ (b : ℕ) (x : Block) (at : slice_get p.blocks b ≡ Some x)
      (shown : (x.global || is_result (main_result D p) b) ≡ true) where
    abbrev leaves : List Leaf
    leaves = table.leaves p.types x.ty

    in_size : (o : Order) (q : ℕ) → q < x.size → q < size_at o p b
    in_size o q l = subst (λ z. q < block_size o p z) (sym at) l

    bytes_at : (o : Order) (q : ℕ) (w : Scalar) → leaf_at leaves q ≡ Some w
        → Has o (restricted p (initial o p)) w b q (size_of p.types.model w)
        (first_datum p D o (sizes p formed) ord (first_values_fit p formed) b x at shown q w)
    bytes_at o q w h j l =
        let e = leaf_ends p.types.model 0 x.size q w leaves (room D p ord (sizes p formed) b (Some x) at).leaves h in
        byte_there o p (initial o p) b (q + j) (in_size o (q + j) (omega (arith, e, l)))
        ∙ leaf_bytes p D o (sizes p formed) ord (first_values_fit p formed) b x at shown q w h j l

    leaf_says : (q : ℕ) (w : Scalar) → leaf_at leaves q ≡ Some w → IsFirstCell (first_cell D p b q w)
    leaf_says q (Int t) h =
        let v = unwrap_or (value_in D p p.init b q) (pos 0) in
        let i = leaf_range p D (ord left) (sizes p formed) ord (first_values_fit p formed) b x at shown q t h in
        let s = one_held t v i in
        record {
          says = record {
            datum = Some (int v);
            allowed = s.value;
            stands = record {
              left = λ e. bytes_at (ord left) q (Int t) h;
              right = λ e. bytes_at (ord right) q (Int t) h;
            };
          };
          form = form_says D Shared os p.types.model first_memories first_memories (b, q) (Int t) (Num (D.single v))
              (constant_form t v) (int v) s.value (λ e. bytes_at (ord left) q (Int t) h)
              (λ e. bytes_at (ord right) q (Int t) h) (constant_form t v)
              (form_has os first_memories (Int t) (int v) (constant_form t v) s.form);
          one = one_value refl (one_number (D.single v) v (law.single_range v (in_range_some_type t v i)));
        }
    leaf_says q Pointer h = record {
      says = record {
        datum = Some null;
        allowed = refl;
        stands = record {
          left = λ e. bytes_at (ord left) q Pointer h;
          right = λ e. bytes_at (ord right) q Pointer h;
        };
      };
      form = tt;
      one = one_value refl (one_pointer null_alone (only_null refl));
    }

    outer_at : (o : Order) (q : ℕ) → q < x.size → is_in_leaf p.types.model leaves q ≡ false
        → Has o (restricted p (initial o p)) (Int U8) b q 1 (int (pos 0))
    outer_at o q m h j l =
        byte_there o p (initial o p) b (q + j) (in_size o (q + j) (omega (arith, m, l)))
        ∙ outer_byte p D o (sizes p formed) ord (first_values_fit p formed) b x at shown q h j l

    byte_says : (q : ℕ) → q < x.size → is_in_leaf p.types.model leaves q ≡ false → IsFirstCell (zero_byte D p b q)
    byte_says q m h =
        let s = one_held U8 (pos 0) (zero_in_range U8) in
        record {
          says = record {
            datum = Some (int (pos 0));
            allowed = s.value;
            stands = record { left = λ e. outer_at (ord left) q m h; right = λ e. outer_at (ord right) q m h };
          };
          form = form_says D Shared os p.types.model first_memories first_memories (b, q) (Int U8)
              (Num (D.single (pos 0))) (constant_form U8 (pos 0)) (int (pos 0)) s.value
              (λ e. outer_at (ord left) q m h) (λ e. outer_at (ord right) q m h) (constant_form U8 (pos 0))
              (form_has os first_memories (Int U8) (int (pos 0)) (constant_form U8 (pos 0)) s.form);
          one = one_value refl
              (one_number (D.single (pos 0)) (pos 0) (law.single_range (pos 0)
              (in_range_some_type U8 (pos 0) (zero_in_range U8))));
        }

    says_by : (c : Cell N) → IsFilled p.types.model (first_cell D p b) (zero_byte D p b) leaves 0 x.size c
        → IsFirstCell c
    says_by c (of_leaf o w l h e is) = subst IsFirstCell (sym is) (leaf_says o w e)
    says_by c (of_byte o l h e t is) = subst IsFirstCell (sym is) (byte_says o (omega (arith, h)) t)

  block_is : (b q n : ℕ) (ls : List Leaf) (c : Cell N)
      → IsFilled p.types.model (first_cell D p b) (zero_byte D p b) ls q n c → c.block ≡ b
  block_is b q n ls c (of_leaf o w l h e is) = ap (λ (z : Cell N). z.block) is
  block_is b q n ls c (of_byte o l h e t is) = ap (λ (z : Cell N). z.block) is

  -- ---- all blocks

  -- from a block on
  pub record AreFirstCells (b : ℕ) (cs : List (Cell N)) : Type 0 where
    pub cells : AreCells p.types.model cs
    pub each : (c : Cell N) → IsIn c cs → IsFirstCell c
    pub from : (c : Cell N) → IsIn c cs → b ≤ c.block

  record AreOf (b : ℕ) (cs : List (Cell N)) : Type 0 where
    cells : AreCells p.types.model cs
    each : (c : Cell N) → IsIn c cs → IsFirstCell c
    block : (c : Cell N) → IsIn c cs → c.block ≡ b

  no_cells : AreCells {N = N} p.types.model []
  no_cells = record { each = λ c i. elim i [ ]; pairs = tt; forms = λ c i. elim i [ ] }

  of_block : (b : ℕ) (x : Block) → slice_get p.blocks b ≡ Some x → (t : Bool)
      → (x.global || is_result (main_result D p) b) ≡ t
      → AreOf b (if t then first_from D p b (table.leaves p.types x.ty) 0 x.size else [])
  of_block b x at false h = record {
    cells = no_cells;
    each = λ c i. elim i [ ];
    block = λ c i. elim i [ ];
  }
  of_block b x at true h =
      let ls = table.leaves p.types x.ty in
      let r = room D p ord (sizes p formed) b (Some x) at in
      let f = of_firsts D in
      subst (AreOf b) (sym (from_is b ls 0 x.size))
      (record {
        cells = f.cells p.types.model Shared b (first_cell D p b) (zero_byte D p b) ls x.size r.leaves r.small
            (all_from b);
        each = λ c i. says_by b x at h c
            (f.made p.types.model (first_cell D p b) (zero_byte D p b) ls 0 x.size c i);
        block = λ c i. block_is b 0 x.size ls c
            (f.made p.types.model (first_cell D p b) (zero_byte D p b) ls 0 x.size c i);
      })

  next_is : (b i : ℕ) → b + 1 + i ≡ b + suc i
  next_is b i = omega arith

  below : (b c d : ℕ) → c ≡ b → b + 1 ≤ d → c < d
  below b c d e h = omega (arith, e, h)

  pub first_cells : (b : ℕ) (xs : List Block)
      → ((i : ℕ) (x : Block) → slice_get xs i ≡ Some x → slice_get p.blocks (b + i) ≡ Some x)
      → AreFirstCells b (first_of_blocks D p b xs)
  first_cells b [] h = record { cells = no_cells; each = λ c i. elim i [ ]; from = λ c i. elim i [ ] }
  first_cells b (x ∷ xs) h =
      let here = first_of_block D p b x in
      let more = first_of_blocks D p (b + 1) xs in
      let at : slice_get p.blocks b ≡ Some x = subst (λ n. slice_get p.blocks n ≡ Some x) (omega arith) (h 0 x refl) in
      let a = of_block b x at (x.global || is_result (main_result D p) b) refl in
      let r = first_cells (b + 1) xs
      (λ i y e. subst (λ n. slice_get p.blocks n ≡ Some y) (sym (next_is b i)) (h (suc i) y e)) in
      record {
        cells = (of_firsts D).beside p.types.model here more a.cells r.cells
            (λ y z i j. below b y.block z.block (a.block y i) (r.from z j));
        each = λ c i. ⊎_elim (λ j. a.each c j) (λ j. r.each c j) (in_append c here more i);
        from = λ c i.
            ⊎_elim (λ j. (let e = a.block c j in omega (arith, e))) (λ j. (let e = r.from c j in omega (arith, e)))
            (in_append c here more i);
      }
