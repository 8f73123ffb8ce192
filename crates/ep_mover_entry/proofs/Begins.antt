-- Where main begins, each byte that is set is said by the cell of a first value.
use Rattle.std.proofs.Common.{◌≡◌, ⊎_elim, ℕ, zero, suc, ◌+◌, ◌^◌, ◌<◌, ◌≤◌, ℤ, pos, Bool, true, false}
use Rattle.std.proofs.Common.{◌||◌, nat_eq, option_and_then, option_to_list, List, [], ◌∷◌, slice_get, Option, Some, None, unwrap_or, refl}
use Rattle.std.proofs.Common.{sym, ap, ◌∙◌, subst, arith}
use Rattle.std.specs.List.{list_all}
use Rattle.std.specs.Option.{option_map_or}
use Rattle.std.proofs.lemmas.Bool.{and_left, and_parts, or_parts, or_cases, both_ways, eqb-true}
use Rattle.std.proofs.Math.Nat.{mod-eq_of_lt}
use Rattle.ep_int.specs.declared.types.IntType.{IntType}
use Rattle.ep_int.specs.declared.types.IntType.TheVariants.{I8, U8, I16, U16, I32, U32, I64, U64}
use Rattle.ep_int.specs.declared.types.Order.{Order}
use Rattle.ep_int.specs.declared.types.Scalar.{Scalar}
use Rattle.ep_int.specs.declared.types.Scalar.TheVariants.{Int}
use Rattle.ep_int.specs.Types.{bytes_of, bits_of, representation}
use Rattle.ep_int.specs.Encoding.{byte_of, place}
use Rattle.ep_int.specs.Memory.{undefined, int, contains, bytes_of_value}
use Rattle.ep_int.proofs.Places.{width_of, place_below, place_back}
use Rattle.ep_int.proofs.Wrapping.{representation_below}
use Rattle.ep_layout.specs.Table as table
use Rattle.ep_bitslice.specs.declared.cell.Side.TheVariants.{Shared}
use Rattle.ep_bitslice.specs.declared.segment.Segment.TheVariants.{Fixed}
use Rattle.ep_domain.specs.Domain.{Ops, Lawful}
use Rattle.ep_cells.specs.declared.cell.Cell.{Cell}
use Rattle.ep_cells.specs.Cells.{IsIn, is_same_side}
use Rattle.ep_cells.specs.Kill.{leaf_at}
use Rattle.ep_cells.specs.Look.{covers}
use Rattle.ep_cells.specs.States.{Known}
use Rattle.ep_cells.proofs.Entry.{leaf_inside}
use Rattle.ep_cell_ranges.specs.Sound.{IsFilled, of_leaf, of_byte}
use Rattle.ep_cell_states.proofs.Lawful.{cells_lawful}
use Rattle.ep_core.specs.Program.{Block, Init, Function, Program}
use Rattle.ep_core.specs.Exec.{result_in, size_at, block_size}
use Rattle.ep_core.specs.Runs.{Side, left, right, is_global, is_result, blank, main_function, initial}
use Rattle.ep_core.specs.WellFormed.{is_well_formed, holds_scalar, has_scalar, block_type}
use Rattle.ep_core.proofs.Operands.{sizes, first_values_fit}
use Rattle.ep_evaluation.specs.Operators.{constant_form}
use Rattle.ep_evaluation.specs.Given.{cells_of}
use Rattle.ep_evaluation.specs.Laws.{IsState}
use Rattle.ep_pass.specs.Laws.{AreOther}
use Rattle.ep_transfers.specs.Transfers.{killed_blocks}
use Rattle.ep_transfers.specs.Ends.{value_in, main_result, first_cell, zero_byte, first_of_blocks, locals_in, entry_known}
use Rattle.ep_transfers.specs.Cells.{cell_ops}
use Rattle.ep_transfers.proofs.Kills.{room}
use Rattle.ep_transfers.proofs.Locals.{not_global, not_result}
use Rattle.ep_transfers.proofs.FirstBytes.{begun_off, covers as covers_first}
use Rattle.ep_transfers.proofs.FirstCells.{InitAt, all_off, blank_plain, leaf_bytes, outer_byte}
use Rattle.ep_single_entry.proofs.Covered.{first_covered}
use Rattle.ep_movers.specs.Symbols.{fixed_byte, number_byte, fixed_bytes, is_set}
use Rattle.ep_movers.specs.Forms.{has_moving_form, are_moved_blocks, is_moved_type}
use Rattle.ep_movers.specs.Movers.{Held, bytes_in, first_machine}
use Rattle.ep_mover_bits.specs.Laws.{Inputs, HasBytes}
use Rattle.ep_mover_bits.proofs.Forms.{forms_follow}
use Rattle.ep_mover_cells.specs.Known.{symbol_at, LiesInOne, SaysBytes, IsSaid, Moved}
use Rattle.ep_mover_laws.specs.Moving.{first_machines}
use Rattle.ep_mover_runs.proofs.Mains.{IsMover, is_mover, result_holds, has_result}
use Rattle.ep_mover_runs.proofs.Places.{number_type}
use Rattle.ep_mover_entry.specs.Laws.{EntriesAreMoved}
use Rattle.ep_mover_entry.proofs.Symbols.{begins, long, inside, no_input, fixed_there, set_there, IsFixed, loaded}
use Rattle.ep_mover_entry.proofs.Grids.{HasNumbers, moved_numbers, number_grid, on_grid}
use Rattle.ep_mover_entry.proofs.Cells.{IsFirst, is_first, lies, told, kept}

-- ---- numbers that are bits

bits_most : (t : IntType) → 2 ^ bits_of t ≤ 2 ^ 64
bits_most I8 = omega arith
bits_most U8 = omega arith
bits_most I16 = omega arith
bits_most U16 = omega arith
bits_most I32 = omega arith
bits_most U32 = omega arith
bits_most I64 = omega arith
bits_most U64 = omega arith

module _ (base : Inputs) (t : IntType) (v : ℤ) where
  abbrev bits_in : ℕ
  bits_in = representation t v

  -- the number that these bits are as an unsigned one has the same bytes
  same_byte : (k : ℕ) → number_byte (pos bits_in) k ≡ byte_of k bits_in
  same_byte k =
      let a = representation_below t v in
      let b = bits_most t in
      ap (byte_of k) (mod-eq_of_lt (omega (arith, a, b)))

  same_form : HasBytes base (constant_form t v) (fixed_bytes (pos bits_in) 0 (bytes_of t))
  same_form =
      subst (λ r. HasBytes base (Some (Fixed r (bits_of t) ∷ [])) (fixed_bytes (pos bits_in) 0 (bytes_of t)))
      (mod-eq_of_lt (representation_below t v)) ((forms_follow base).constant t (pos bits_in))

-- ---- blocks

-- a block has a moved type, or is main's result
block_moved : (t : table.Table) (r : Option (ℕ × Scalar)) (n k : ℕ) (bs : List Block) (d : Block)
    → are_moved_blocks t r n bs ≡ true → slice_get bs k ≡ Some d
    → (is_result r (n + k) || option_map_or (is_moved_type t) (slice_get t.types d.ty) false) ≡ true
block_moved t r n k [] d h e = absurd cc
block_moved t r n zero (b ∷ bs) d h e =
    let same : b ≡ d = cc in
    let here : n ≡ n + 0 = omega arith in
    subst (λ j. (is_result r j || option_map_or (is_moved_type t) (slice_get t.types d.ty) false) ≡ true) here
    (subst (λ (x : Block). (is_result r n || option_map_or (is_moved_type t) (slice_get t.types x.ty) false)
    ≡ true) same
    (and_parts (is_result r n || option_map_or (is_moved_type t) (slice_get t.types b.ty) false)
    (are_moved_blocks t r (suc n) bs) h).0)
block_moved t r n (suc k) (b ∷ bs) d h e =
    let here : suc n + k ≡ n + suc k = omega arith in
    subst (λ j. (is_result r j || option_map_or (is_moved_type t) (slice_get t.types d.ty) false) ≡ true) here
    (block_moved t r (suc n) k bs d
    (and_parts (is_result r n || option_map_or (is_moved_type t) (slice_get t.types b.ty) false)
    (are_moved_blocks t r (suc n) bs) h).1 e)

module _ {N : Type 0} (D : Ops N) (law : Lawful D) (p : Program) (ord : Side → Order)
    (formed : is_well_formed p ≡ true) (form : has_moving_form p ≡ true) (other : AreOther ord) where
  mover : IsMover p
  mover = is_mover p formed form

  result_numbers : (b : ℕ) (x : Block) → slice_get p.blocks b ≡ Some x → is_result mover.main.result b ≡ true
      → HasNumbers p.types x.ty
  result_numbers b x at h =
      let r = has_result p formed mover in
      let same : r.block ≡ b = eqb-true r.block b (subst (λ o. is_result o b ≡ true) r.is h) in
      let held : list_all (holds_scalar p.types p.blocks) ((r.block, Int I32) ∷ []) ≡ true
      = subst (λ (o : Option (ℕ × Scalar)). list_all (holds_scalar p.types p.blocks) (option_to_list o) ≡ true) r.is
      (result_holds p formed mover) in
      let one = (and_parts (holds_scalar p.types p.blocks (r.block, Int I32)) true held).0 in
      let there : slice_get p.blocks r.block ≡ Some x = ap (slice_get p.blocks) same ∙ at in
      let typed = subst (λ o. has_scalar (option_and_then (slice_get p.types.types) (block_type o)) (Int I32) ≡ true)
      there one in
      record { i = I32; grid = number_grid p.types x.ty I32 (number_type (slice_get p.types.types x.ty) I32 typed) }

  numbers : (b : ℕ) (x : Block) → slice_get p.blocks b ≡ Some x → HasNumbers p.types x.ty
  numbers b x at =
      let first : 0 + b ≡ b = omega arith in
      ⊎_elim
      (λ r. result_numbers b x at (subst (λ j. is_result mover.main.result j ≡ true) first r))
      (λ m. moved_numbers p.types x.ty m)
      (or_cases (is_result mover.main.result (0 + b))
      (option_map_or (is_moved_type p.types) (slice_get p.types.types x.ty) false)
      (block_moved p.types mover.main.result 0 b p.blocks x mover.blocks at))

  -- ---- a byte that is set is one of a global, or of main's result

  none_at : (o : Order) (b q : ℕ) → is_global (slice_get p.blocks b) ≡ false → is_result (main_result D p) b ≡ false
      → initial o p b q ≡ undefined
  none_at o b q g r =
      begun_off D p o p.init (blank p.blocks (result_in (main_function o p))) (blank_plain p D o) b q
      (all_off p D o b q off p.init (first_values_fit p formed))
      ∙ rw (g, r) refl
    where
      off : (i : Init) → InitAt p i → covers_first D p o i b q ≡ false
      off i a = by_test (nat_eq i.block b) refl
        where
          by_test : (t : Bool) → nat_eq i.block b ≡ t → covers_first D p o i b q ≡ false
          by_test false e = and_left (nat_eq i.block b) _ e
          by_test true e =
              absurd (both_ways (is_global (slice_get p.blocks b)) g
              (ap is_global (ap (slice_get p.blocks) (sym (eqb-true i.block b e)) ∙ a.is) ∙ a.global))

  record IsShown (b q : ℕ) : Type 0 where
    object : Block
    here : slice_get p.blocks b ≡ Some object
    shown : (object.global || is_result (main_result D p) b) ≡ true
    low : q < object.size

  shown_at : (s : Side) (b q : ℕ) → is_set (symbol_at (bytes_in (begins p formed (ord s)).memory b) q) ≡ true
      → IsShown b q
  shown_at s b q h = by (slice_get p.blocks b) refl (inside p formed (ord s) b q h)
    where
      shown : (x : Block) → slice_get p.blocks b ≡ Some x → (t : Bool)
          → (x.global || is_result (main_result D p) b) ≡ t → (x.global || is_result (main_result D p) b) ≡ true
      shown x at true e = e
      shown x at false e =
          let r = or_parts x.global (is_result (main_result D p) b) e in
          absurd (set_there p formed (ord s) b q h (none_at (ord s) b q (ap is_global at ∙ r.0) r.1))

      by : (o : Option Block) → slice_get p.blocks b ≡ o → q < size_at (ord s) p b → IsShown b q
      by None at l = absurd (let z : size_at (ord s) p b ≡ 0 = ap (block_size (ord s) p) at in omega (arith, l, z))
      by (Some x) at l =
          let z : size_at (ord s) p b ≡ x.size = ap (block_size (ord s) p) at in
          record {
            object = x;
            here = at;
            shown = shown x at (x.global || is_result (main_result D p) b) refl;
            low = omega (arith, l, z);
          }

  -- ---- cells of first values say their bytes

  module _ (base : Inputs) (s : Side) (b : ℕ) (x : Block) (at : slice_get p.blocks b ≡ Some x) where
    abbrev hs : List Held
    hs = bytes_in (begins p formed (ord s)).memory b

    told_says : (q : ℕ) (t : IntType) (v : ℤ) → q + bytes_of t ≤ x.size
        → ((j : ℕ) → j < bytes_of t → initial (ord s) p b (q + j) ≡ bytes_of_value (ord s) (Int t) (int v) j)
        → SaysBytes base (ord s) hs (told D p b q t v)
    told_says q t v room has = record {
      t = t;
      what = refl;
      sure = refl;
      bytes = fixed_bytes (pos (representation t v)) 0 (bytes_of t);
      lie = loaded (ord s) hs q (bytes_of t) (pos (representation t v)) 0 (bytes_of t) (λ j l. fixed_at j l);
      form = same_form base t v;
    }
      where
        fixed_at : (j : ℕ) → j < bytes_of t
            → IsFixed hs (q + place (ord s) (bytes_of t) (0 + j)) (number_byte (pos (representation t v)) (0 + j))
        fixed_at j l =
            let n = bytes_of t in
            let k = place (ord s) n (0 + j) in
            let r = representation t v in
            let same : 0 + j ≡ j = omega arith in
            let m : 0 + j < n = omega (arith, l) in
            let below : k < n = place_below (ord s) n (0 + j) (width_of t) m in
            let size : size_at (ord s) p b ≡ x.size = ap (block_size (ord s) p) at in
            let whole = long p formed (ord s) b in
            let there : q + k < size_at (ord s) p b = omega (arith, below, room, size) in
            record {
              low = omega (arith, there, whole);
              is = fixed_there p formed (ord s) b (q + k) (byte_of (place (ord s) n k) r) there (has k below)
                  ∙ ap (λ z. fixed_byte (byte_of z r)) (place_back (ord s) n (0 + j) (width_of t) m)
                  ∙ ap (λ z. fixed_byte z) (sym (same_byte base t v (0 + j)));
            }

  -- ---- where main begins

  module _ (f : Function) (main : slice_get p.functions p.main ≡ Some f) (base : Inputs) where
    abbrev first_known : Known N
    first_known = record {
      orders = (ord left, ord right);
      model = p.types.model;
      cells = first_of_blocks D p 0 p.blocks;
    }

    abbrev begun : Known N
    begun = killed_blocks D p Shared f.locals first_known

    begun_is : entry_known D p ord ≡ begun
    begun_is = ap (λ g. killed_blocks D p Shared (locals_in D p g) first_known) main

    state : IsState D p ord begun
    state = subst (IsState D p ord) begun_is (cells_lawful D law p ord formed other).entry_in.state

    -- a block that has first values is no local
    off_locals : (b : ℕ) (x : Block) → slice_get p.blocks b ≡ Some x
        → (x.global || is_result (main_result D p) b) ≡ true → contains b f.locals ≡ false
    off_locals b x at h = by (contains b f.locals) refl
      where
        by : (t : Bool) → contains b f.locals ≡ t → contains b f.locals ≡ false
        by false e = e
        by true e =
            absurd (⊎_elim
            (λ g. both_ways (is_global (slice_get p.blocks b)) (not_global p formed p.main f main b e)
            (ap is_global at ∙ g))
            (λ r. both_ways (is_result f.result b) (not_result p formed p.main f main b e)
            (subst (λ g. is_result (result_in g) b ≡ true) main r))
            (or_cases x.global (is_result (main_result D p) b) h))

    -- the cell of a first value, where main begins
    record Said (s : Side) (m : ℕ) (c : Cell N) : Type 0 where
      block : c.block ≡ m
      is_in : IsIn c begun.cells
      says : SaysBytes base (ord s) (bytes_in (begins p formed (ord s)).memory m) c

    module _ (s : Side) (c : Cell N) (i : IsIn c (first_of_blocks D p 0 p.blocks)) (g : IsFirst D p c) where
      as_told : (q : ℕ) (t : IntType) (v : ℤ) → c ≡ told D p g.number q t v → q + bytes_of t ≤ g.object.size
          → ((j : ℕ) → j < bytes_of t
          → initial (ord s) p g.number (q + j) ≡ bytes_of_value (ord s) (Int t) (int v) j)
          → Said s g.number c
      as_told q t v is low has =
          subst (Said s g.number) (sym is) (record {
            block = refl;
            is_in = kept D p base g.number q t v f.locals first_known (off_locals g.number g.object g.here g.shown)
                (subst (λ z. IsIn z (first_of_blocks D p 0 p.blocks)) is i);
            says = told_says base s g.number g.object g.here q t v low has;
          })

      first_said : Said s g.number c
      first_said = by g.filled
        where
          by : IsFilled p.types.model (first_cell D p g.number) (zero_byte D p g.number)
              (table.leaves p.types g.object.ty) 0 g.object.size c → Said s g.number c
          by (of_leaf q w l h e is) =
              let n = numbers g.number g.object g.here in
              let o = on_grid n.i (table.leaves p.types g.object.ty) q w n.grid e in
              let at : leaf_at (table.leaves p.types g.object.ty) q ≡ Some (Int n.i) = e ∙ ap (λ z. Some z) o.what in
              let r = room D p ord (sizes p formed) g.number (Some g.object) g.here in
              as_told q n.i (unwrap_or (value_in D p p.init g.number q) (pos 0))
              (is ∙ ap (first_cell D p g.number q) o.what)
              (leaf_inside p.types.model 0 g.object.size q (table.leaves p.types g.object.ty) (Int n.i) r.leaves at)
              (leaf_bytes p D (ord s) (sizes p formed) ord (first_values_fit p formed) g.number g.object g.here g.shown
              q (Int n.i) at)
          by (of_byte q l h e t is) =
              as_told q U8 (pos 0) is (omega (arith, h))
              (outer_byte p D (ord s) (sizes p formed) ord (first_values_fit p formed) g.number g.object g.here g.shown
              q t)

    said : (s : Side) (b q : ℕ) → is_set (symbol_at (bytes_in (begins p formed (ord s)).memory b) q) ≡ true
        → IsSaid base (ord s) begun.model begun.cells (cells_of s) (bytes_in (begins p formed (ord s)).memory b) b q
    said s b q h =
        let a = shown_at s b q h in
        let r = room D p ord (sizes p formed) b (Some a.object) a.here in
        let c = first_covered D p (cells_of s) b q a.object a.here a.shown r.leaves a.low in
        let g = is_first D p c.cell c.is_in in
        let z = first_said s c.cell c.is_in g in
        let same : g.number ≡ b = sym z.block ∙ block_of p.types.model (cells_of s) c.cell c.has in
        record {
          cell = c.cell;
          is_in = z.is_in;
          has = subst (λ m. covers m (cells_of s) b q c.cell ≡ true) (sym state.model) c.has;
          says = subst (λ m. SaysBytes base (ord s) (bytes_in (begins p formed (ord s)).memory m) c.cell) same z.says;
        }
      where
        block_of : (e : _) (t : _) (c : Cell N) → covers e t b q c ≡ true → c.block ≡ b
        block_of e t c k =
            eqb-true c.block b (and_parts (nat_eq c.block b) _ (and_parts (is_same_side c.side t || is_same_side c.side Shared) _ k).1).0

    entered : Moved D p ord base (λ s. begins p formed (ord s)) begun
    entered = record {
      state = state;
      said = said;
      whole = λ x i. subst (λ m. LiesInOne p m x) (sym state.model) (lies D p f.locals first_known refl refl x i);
      counts = refl;
      inputs = λ i l. absurd (omega (arith, l));
      own = λ i j l m e. absurd (omega (arith, l));
      taken = λ s b q i j e. absurd (no_input p formed (ord s) b q i j e);
    }

    pub begins_moved : Moved D p ord base (first_machines p ord f) (cell_ops D p ord).entry
    begins_moved =
        subst (λ k. Moved D p ord base (first_machines p ord f) k) (sym begun_is)
        (subst (λ g. Moved D p ord base (λ s. first_machine (ord s) p (result_in g)) begun) main entered)

module _ {N : Type 0} (D : Ops N) (law : Lawful D) where
  -- no input is there yet: any names will do
  no_inputs : Inputs
  no_inputs i = record { side = Shared; block = 0; offset = 0; t = U8 }

  pub entries_moved : EntriesAreMoved D
  entries_moved p ord formed form other f main =
      (no_inputs, begins_moved D law p ord formed form other f main no_inputs)
