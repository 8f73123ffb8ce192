-- Main begins: the cells of globals and of main's result say what the bytes of both memories are, and then main's
-- locals come.
use Rattle.std.proofs.Common.{◌≡◌, ℕ, zero, suc, ◌+◌, ◌<◌, ◌≤◌, ℤ, pos, Bool, true, false, ◌||◌, nat_eq}
use Rattle.ep_int.proofs.Arithmetic.{zero_in_range}
use Rattle.std.proofs.Common.{if◌then◌else◌, List, [], ◌∷◌, ◌++◌, ⊎_elim, slice_get, Option, Some, None, IfSome}
use Rattle.std.proofs.Common.{unwrap_or, refl, sym, ap, ◌∙◌, subst, arith}
use Rattle.std.proofs.lemmas.Bool.{and_left, both_ways, eqb-true}
use Rattle.ep_int.specs.declared.types.IntType.{IntType}
use Rattle.ep_int.specs.declared.types.IntType.TheVariants.{U8}
use Rattle.ep_int.specs.declared.types.Order.{Order}
use Rattle.ep_int.specs.declared.types.Scalar.{Scalar}
use Rattle.ep_int.specs.declared.types.Scalar.TheVariants.{Int, Pointer}
use Rattle.ep_int.specs.Types.{bits_of, size_of, InRange, representation, wrapped}
use Rattle.ep_int.specs.Memory.{undefined, int, null, has, contains, forgotten, killed}
use Rattle.ep_int.proofs.Wrapping.{representation_below, wrapped_in_range, representation_represented}
use Rattle.ep_layout.specs.declared.types.Leaf.{Leaf}
use Rattle.ep_layout.specs.Table as table
use Rattle.ep_bitslice.specs.declared.cell.Side.TheVariants.{Shared}
use Rattle.ep_bitslice.specs.declared.segment.Segment.TheVariants.{Fixed}
use Rattle.ep_domain.specs.Domain.{Ops, Lawful}
use Rattle.ep_cells.specs.declared.cell.Cell.{Cell}
use Rattle.ep_cells.specs.declared.cell.Value.TheVariants.{Num}
use Rattle.ep_cells.specs.Cells.{IsIn}
use Rattle.ep_cells.specs.Kill.{leaf_at, is_in_leaf}
use Rattle.ep_cells.specs.States.{Known, AreCells}
use Rattle.ep_cells.specs.Meaning.{Memories, Has, Says, FormSays, numbers_of}
use Rattle.ep_cells.proofs.Lists.{in_append}
use Rattle.ep_reads.specs.Laws.{IsFormRead}
use Rattle.ep_core.specs.Program.{Block, Init, Function, Program}
use Rattle.ep_core.specs.Exec.{result_in}
use Rattle.ep_core.specs.Runs.{Side, left, right, is_global, is_result, blank, main_function, initial}
use Rattle.ep_core.specs.Typed.{MemoryFits}
use Rattle.ep_core.specs.WellFormed.{is_well_formed}
use Rattle.ep_core.proofs.Bytes.{initial_bytes}
use Rattle.ep_core.proofs.Operands.{sizes, first_values_fit}
use Rattle.ep_equalities.specs.declared.pair.Mode.TheVariants.{Both}
use Rattle.ep_equalities.specs.declared.pair.SideValue.{SideValue}
use Rattle.ep_equalities.specs.Pairs.{SideIn}
use Rattle.ep_evaluation.specs.Operators.{constant_form}
use Rattle.ep_cell_ranges.specs.First.{filled_here, filled_from}
use Rattle.ep_cell_ranges.specs.Sound.{IsMade, AreMade, IsFilled, of_leaf, of_byte}
use Rattle.ep_cell_ranges.proofs.Firsts.{of_firsts}
use Rattle.ep_cell_ranges.proofs.Same.{in_same}
use Rattle.ep_evaluation.specs.Laws.{memory_of, IsKept}
use Rattle.ep_evaluation.proofs.Conversions.{constant_sound}
use Rattle.ep_transfers.specs.Cells.{empty_known}
use Rattle.ep_transfers.specs.Ends.{value_in, first_cell, zero_byte, first_here, first_from, main_result}
use Rattle.ep_transfers.specs.Ends.{first_of_block, first_of_blocks, locals_in, entry_known}
use Rattle.ep_transfers.specs.Laws.{memories, StandsFor}
use Rattle.ep_transfers.specs.Statements.{Each}
use Rattle.ep_transfers.specs.CallLaws.{EntryHolds}
use Rattle.ep_transfers.proofs.Assigned.{form_has}
use Rattle.ep_transfers.proofs.Gathered.{cell_laws}
use Rattle.ep_transfers.proofs.Guarded.{empty_stands}
use Rattle.ep_transfers.proofs.Kills.{room, entered_both}
use Rattle.ep_transfers.proofs.Sides.{form_says}
use Rattle.ep_transfers.proofs.Locals.{not_global, not_result}
use Rattle.ep_transfers.proofs.FirstBytes.{ArePlain, forgotten_plain, begun_plain, begun_off, covers}
use Rattle.ep_transfers.proofs.FirstCells.{InitAt, all_off, blank_plain, first_datum, leaf_bytes}
use Rattle.ep_transfers.proofs.FirstCells.{leaf_range, outer_byte}

module _ {N : Type 0} (D : Ops N) (law : Lawful D) (p : Program) (ord : Side → Order)
    (formed : is_well_formed p ≡ true) where
  abbrev begins : Memories
  begins = memories (initial (ord left) p) (initial (ord right) p)

  abbrev os : Order × Order
  os = (ord left, ord right)

  -- ---- numbers and their forms

  begin_fit : (s : Side) → MemoryFits p (memory_of s begins)
  begin_fit left = initial_bytes p (ord left) (first_values_fit p formed)
  begin_fit right = initial_bytes p (ord right) (first_values_fit p formed)

  nothing_kept : IsKept D p ord (empty_known D p ord) begins
  nothing_kept =
      let h = empty_stands D p ord begins.left begins.right in
      record { state = h.state; holds = h.holds; fits = begin_fit }

  abbrev number_side : IntType → ℤ → SideValue N
  number_side t v = record { value = Some (Num (D.single v)); form = constant_form t v }

  number_held : (t : IntType) (v : ℤ) → InRange t v → SideIn D (numbers_of os begins) (Int t) (number_side t v) (int v)
  number_held t v i =
      ((constant_sound D law p ord t v i (λ s m. has (int v)) (λ s m. refl)).gives (empty_known D p ord) begins
      nothing_kept Both).held refl left refl (int v) refl

  -- the form of a number of the type that has the same bits
  form_fits : (t : IntType) (v : ℤ) → IsFormRead {N = N} [] (Int t) false (Fixed (representation t v) (bits_of t) ∷ [])
  form_fits t v =
      let s = constant_sound D law p ord t (wrapped t v) (wrapped_in_range t v) (λ s m. has (int (wrapped t v)))
      (λ s m. refl) in
      subst (λ r. IsFormRead {N = N} [] (Int t) false (Fixed r (bits_of t) ∷ []))
      (representation_represented t (representation t v) (representation_below t v))
      (s.fits (empty_known D p ord) nothing_kept.state Both left).form

  -- ---- what the cells of a block are made of

  made_leaf : (b q : ℕ) (w : Scalar) → IsMade p.types.model Shared b q w (first_cell D p b q w)
  made_leaf b q (Int t) =
      let f = form_fits t (unwrap_or (value_in D p p.init b q) (pos 0)) in
      record {
        placed = record { side = refl; block = refl; offset = refl; what = refl };
        cell = λ l. record { fits = record { sort = tt; undefined = λ e. absurd (cc); last = l }; rising = tt };
        form = record { sure = refl; wide = f.wide; form = f.form; mentioned = f.mentioned };
      }
  made_leaf b q Pointer = record {
    placed = record { side = refl; block = refl; offset = refl; what = refl };
    cell = λ l. record { fits = record { sort = tt; undefined = λ e. absurd (cc); last = l }; rising = tt };
    form = tt;
  }

  made_byte : (b q : ℕ) → IsMade p.types.model Shared b q (Int U8) (zero_byte D p b q)
  made_byte b q =
      let f = form_fits U8 (pos 0) in
      record {
        placed = record { side = refl; block = refl; offset = refl; what = refl };
        cell = λ l. record { fits = record { sort = tt; undefined = λ e. absurd (cc); last = l }; rising = tt };
        form = record { sure = refl; wide = f.wide; form = f.form; mentioned = f.mentioned };
      }

  all_made : (b : ℕ) → AreMade p.types.model Shared b (first_cell D p b) (zero_byte D p b)
  all_made b = record { leaves = made_leaf b; bytes = made_byte b }

  filled_is : (b : ℕ) (ls : List Leaf) (q n : ℕ)
      → first_from D p b ls q n ≡ filled_from p.types.model (first_cell D p b) (zero_byte D p b) ls q n
  filled_is b ls q zero = refl
  filled_is b ls q (suc n) =
      here_is (leaf_at ls q) (is_in_leaf p.types.model ls q)
      ∙ ap (λ cs. filled_here p.types.model (first_cell D p b) (zero_byte D p b) q (leaf_at ls q)
      (is_in_leaf p.types.model ls q) ++ cs) (filled_is b ls (q + 1) n)
    where
      here_is : (o : Option Scalar) (t : Bool) → first_here D p b q o t ++ first_from D p b ls (q + 1) n
          ≡ filled_here p.types.model (first_cell D p b) (zero_byte D p b) q o t ++ first_from D p b ls (q + 1) n
      here_is (Some w) t = refl
      here_is None true = refl
      here_is None false = refl

  -- ---- what they say

  record IsSaid (c : Cell N) : Type 0 where
    says : Says D os p.types.model begins c
    form : IfSome c.form (FormSays os begins c)

  module _ (b : ℕ) (x : Block) (at : slice_get p.blocks b ≡ Some x)
      (shown : (x.global || is_result (main_result D p) b) ≡ true) where
    abbrev leaves : List Leaf
    leaves = table.leaves p.types x.ty

    bytes_at : (o : Order) (q : ℕ) (w : Scalar) → leaf_at leaves q ≡ Some w → Has o (initial o p) w b q
        (size_of p.types.model w) (first_datum p D o (sizes p formed) ord (first_values_fit p formed) b x at shown q w)
    bytes_at o q w h j l =
        leaf_bytes p D o (sizes p formed) ord (first_values_fit p formed) b x at shown q w h j l

    leaf_said : (q : ℕ) (w : Scalar) → leaf_at leaves q ≡ Some w → IsSaid (first_cell D p b q w)
    leaf_said q (Int t) h =
        let v = unwrap_or (value_in D p p.init b q) (pos 0) in
        let i = leaf_range p D (ord left) (sizes p formed) ord (first_values_fit p formed) b x at shown q t h in
        let s = number_held t v i in
        record {
          says = record {
            datum = Some (int v);
            allowed = s.value;
            stands = record {
              left = λ e. bytes_at (ord left) q (Int t) h;
              right = λ e. bytes_at (ord right) q (Int t) h;
            };
          };
          form = form_says D Shared os p.types.model begins begins (b, q) (Int t) (Num (D.single v)) (constant_form t v)
              (int v) s.value (λ e. bytes_at (ord left) q (Int t) h) (λ e. bytes_at (ord right) q (Int t) h)
              (constant_form t v) (form_has os begins (Int t) (int v) (constant_form t v) s.form);
        }
    leaf_said q Pointer h = record {
      says = record {
        datum = Some null;
        allowed = refl;
        stands = record {
          left = λ e. bytes_at (ord left) q Pointer h;
          right = λ e. bytes_at (ord right) q Pointer h;
        };
      };
      form = tt;
    }

    outer_at : (o : Order) (q : ℕ) → is_in_leaf p.types.model leaves q ≡ false → Has o (initial o p) (Int U8) b q 1
        (int (pos 0))
    outer_at o q h j l = outer_byte p D o (sizes p formed) ord (first_values_fit p formed) b x at shown q h j l

    byte_said : (q : ℕ) → is_in_leaf p.types.model leaves q ≡ false → IsSaid (zero_byte D p b q)
    byte_said q h =
        let s = number_held U8 (pos 0) (zero_in_range U8) in
        record {
          says = record {
            datum = Some (int (pos 0));
            allowed = s.value;
            stands = record { left = λ e. outer_at (ord left) q h; right = λ e. outer_at (ord right) q h };
          };
          form = form_says D Shared os p.types.model begins begins (b, q) (Int U8) (Num (D.single (pos 0)))
              (constant_form U8 (pos 0)) (int (pos 0)) s.value (λ e. outer_at (ord left) q h)
              (λ e. outer_at (ord right) q h) (constant_form U8 (pos 0))
              (form_has os begins (Int U8) (int (pos 0)) (constant_form U8 (pos 0)) s.form);
        }

    filled_said : (q n : ℕ) (c : Cell N)
        → IsFilled p.types.model (first_cell D p b) (zero_byte D p b) leaves q n c → IsSaid c
    filled_said q n c (of_leaf o w l h e is) = subst IsSaid (sym is) (leaf_said o w e)
    filled_said q n c (of_byte o l h e t is) = subst IsSaid (sym is) (byte_said o t)

  in_block : (b q n : ℕ) (ls : List Leaf) (c : Cell N)
      → IsFilled p.types.model (first_cell D p b) (zero_byte D p b) ls q n c → c.block ≡ b
  in_block b q n ls c (of_leaf o w l h e is) = ap (λ (z : Cell N). z.block) is
  in_block b q n ls c (of_byte o l h e t is) = ap (λ (z : Cell N). z.block) is

  -- ---- all blocks

  -- from a block on
  record AreFirst (b : ℕ) (cs : List (Cell N)) : Type 0 where
    cells : AreCells p.types.model cs
    said : (c : Cell N) → IsIn c cs → IsSaid c
    from : (c : Cell N) → IsIn c cs → b ≤ c.block

  record IsFirst (b : ℕ) (cs : List (Cell N)) : Type 0 where
    cells : AreCells p.types.model cs
    said : (c : Cell N) → IsIn c cs → IsSaid c
    block : (c : Cell N) → IsIn c cs → c.block ≡ b

  no_cells : AreCells {N = N} p.types.model []
  no_cells = record { each = λ c i. elim i [ ]; pairs = tt; forms = λ c i. elim i [ ] }

  first_by : (b : ℕ) (x : Block) → slice_get p.blocks b ≡ Some x → (t : Bool)
      → (x.global || is_result (main_result D p) b) ≡ t
      → IsFirst b (if t then first_from D p b (table.leaves p.types x.ty) 0 x.size else [])
  first_by b x at false h = record {
    cells = no_cells;
    said = λ c i. elim i [ ];
    block = λ c i. elim i [ ];
  }
  first_by b x at true h =
      let ls = table.leaves p.types x.ty in
      let r = room D p ord (sizes p formed) b (Some x) at in
      let f = of_firsts D in
      subst (IsFirst b) (sym (filled_is b ls 0 x.size))
      (record {
        cells = f.cells p.types.model Shared b (first_cell D p b) (zero_byte D p b) ls x.size r.leaves r.small
            (all_made b);
        said = λ c i. filled_said b x at h 0 x.size c
            (f.made p.types.model (first_cell D p b) (zero_byte D p b) ls 0 x.size c i);
        block = λ c i. in_block b 0 x.size ls c
            (f.made p.types.model (first_cell D p b) (zero_byte D p b) ls 0 x.size c i);
      })

  at_more : (b i : ℕ) → b + 1 + i ≡ b + suc i
  at_more b i = omega arith

  below_next : (b c d : ℕ) → c ≡ b → b + 1 ≤ d → c < d
  below_next b c d e h = omega (arith, e, h)

  all_first : (b : ℕ) (xs : List Block)
      → ((i : ℕ) (x : Block) → slice_get xs i ≡ Some x → slice_get p.blocks (b + i) ≡ Some x)
      → AreFirst b (first_of_blocks D p b xs)
  all_first b [] h = record { cells = no_cells; said = λ c i. elim i [ ]; from = λ c i. elim i [ ] }
  all_first b (x ∷ xs) h =
      let here = first_of_block D p b x in
      let more = first_of_blocks D p (b + 1) xs in
      let at : slice_get p.blocks b ≡ Some x = subst (λ n. slice_get p.blocks n ≡ Some x) (omega arith) (h 0 x refl) in
      let a = first_by b x at (x.global || is_result (main_result D p) b) refl in
      let r = all_first (b + 1) xs
      (λ i y e. subst (λ n. slice_get p.blocks n ≡ Some y) (sym (at_more b i)) (h (suc i) y e)) in
      record {
        cells = (of_firsts D).beside p.types.model here more a.cells r.cells
            (λ y z i j. below_next b y.block z.block (a.block y i) (r.from z j));
        said = λ c i. ⊎_elim (λ j. a.said c j) (λ j. r.said c j) (in_append c here more i);
        from = λ c i.
            ⊎_elim (λ j. (let e = a.block c j in omega (arith, e))) (λ j. (let e = r.from c j in omega (arith, e)))
            (in_append c here more i);
      }

  first_known : Known N
  first_known = record { orders = os; model = p.types.model; cells = first_of_blocks D p 0 p.blocks }

  first_stands : StandsFor D p ord first_known begins.left begins.right
  unfolding first_known
  first_stands =
      let a = all_first 0 p.blocks (λ i x e. subst (λ n. slice_get p.blocks n ≡ Some x) (omega arith) e) in
      record {
        state = record { orders = refl; model = refl; cells = a.cells };
        holds = record { cells = λ c i. (a.said c i).says; forms = λ c i. (a.said c i).form };
      }

  -- ---- locals are undefined from the start

  undefined_at : (o : Order) (b q : ℕ) → is_global (slice_get p.blocks b) ≡ false
      → is_result (result_in (main_function o p)) b ≡ false → initial o p b q ≡ undefined
  undefined_at o b q g r =
      begun_off D p o p.init (blank p.blocks (result_in (main_function o p))) (blank_plain p D o) b q
      (all_off p D o b q off p.init (first_values_fit p formed))
      ∙ rw (g, r) refl
    where
      off : (i : Init) → InitAt p i → covers D p o i b q ≡ false
      off i a = by_test (nat_eq i.block b) refl
        where
          by_test : (t : Bool) → nat_eq i.block b ≡ t → covers D p o i b q ≡ false
          by_test false e = and_left (nat_eq i.block b) _ e
          by_test true e =
              absurd (both_ways (is_global (slice_get p.blocks b)) g
              (ap is_global (ap (slice_get p.blocks) (sym (eqb-true i.block b e)) ∙ a.is) ∙ a.global))

  initial_plain : (o : Order) → ArePlain (initial o p)
  initial_plain o = begun_plain D p o p.init (blank p.blocks (result_in (main_function o p))) (blank_plain p D o)

  local_by : (o : Order) (f : Option Function) → slice_get p.functions p.main ≡ f → (b q : ℕ)
      → contains b (locals_in D p f) ≡ true → initial o p b q ≡ undefined
  local_by o None e b q h = absurd (cc)
  local_by o (Some f) e b q h =
      undefined_at o b q (not_global p formed p.main f e b h)
      (ap (λ g. is_result (result_in g) b) e ∙ not_result p formed p.main f e b h)

  abbrev locals : List ℕ
  locals = locals_in D p (slice_get p.functions p.main)

  same_byte : (o : Order) (b q : ℕ) (t : Bool) → contains b locals ≡ t
      → initial o p b q ≡ (if t then undefined else forgotten locals (initial o p b q))
  same_byte o b q true e = local_by o (slice_get p.functions p.main) refl b q e
  same_byte o b q false e = sym (forgotten_plain locals (initial o p b q) (initial_plain o b q))

  entry_stands : StandsFor D p ord (entry_known D p ord) begins.left begins.right
  unfolding first_known
  entry_stands =
      let h = entered_both D p ord (sizes p formed) (cell_laws D law).kills locals first_known begins.left begins.right
      first_stands in
      record {
        state = h.state;
        holds = in_same D (entry_known D p ord) (memories (killed locals begins.left) (killed locals begins.right))
            begins (record {
              left = λ b q. same_byte (ord left) b q (contains b locals) refl;
              right = λ b q. same_byte (ord right) b q (contains b locals) refl;
            }) h.holds;
      }

pub each_entry : {N : Type 0} (D : Ops N) → Lawful D → Each (EntryHolds D)
each_entry D law p ord formed = record { entry_in = entry_stands D law p ord formed }
