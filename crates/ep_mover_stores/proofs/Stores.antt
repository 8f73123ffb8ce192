-- A number, or an input, goes to its place.
use Rattle.std.proofs.Common.{◌≡◌, ℕ, zero, suc, ◌+◌, ◌^◌, ◌<◌, ◌≤◌, Bool, true, false, ◌&&◌, ◌||◌, cond, nat_eq, List, []}
use Rattle.std.proofs.Common.{◌∷◌, ◌++◌, length, slice_get, Option, Some, None, refl, sym, ap, ◌∙◌, subst, arith}
use Rattle.std.specs.Prelude.{is_some}
use Rattle.std.specs.Option.{option_map_or}
use Rattle.std.proofs.lemmas.Bool.{and_from, eqb-true}
use Rattle.ep_int.specs.declared.types.IntType.{IntType}
use Rattle.ep_int.specs.declared.types.Order.{Order}
use Rattle.ep_int.specs.declared.types.Scalar.TheVariants.{Int}
use Rattle.ep_int.specs.Types.{bytes_of, bits_of}
use Rattle.ep_int.proofs.Basics.{some-injective, nat_eq-self}
use Rattle.ep_alarms.specs.declared.types.AlarmKind.TheVariants.{U5, U6, U7}
use Rattle.ep_bitslice.specs.declared.cell.CellName.{CellName}
use Rattle.ep_bitslice.specs.declared.cell.Side.{Side as CellSide}
use Rattle.ep_bitslice.specs.declared.cell.Side.TheVariants as cell_side
use Rattle.ep_bitslice.specs.declared.segment.Segment.TheVariants.{Bits}
use Rattle.ep_domain.specs.Domain.{Ops, Lawful}
use Rattle.ep_cells.specs.declared.cell.Cell.{Cell}
use Rattle.ep_cells.specs.declared.cell.Value.{Value}
use Rattle.ep_cells.specs.declared.cell.Value.TheVariants.{Num}
use Rattle.ep_cells.specs.Cells.{IsNamed, place_of, share_memory}
use Rattle.ep_cells.specs.Forms.{have_same_form, common_form}
use Rattle.ep_cells.specs.States.{Known}
use Rattle.ep_reads.specs.Bytes.{own_form, form_or, form_of_cell}
use Rattle.ep_reads.proofs.Splits.{of_splits}
use Rattle.ep_cell_ranges.specs.Follow.{FormFits}
use Rattle.ep_cell_ranges.specs.Laws.{ReplaceLaws}
use Rattle.ep_cell_ranges.specs.Ranges.{Form, replaced, form_by_replace}
use Rattle.ep_cell_ranges.specs.Spots.{Spot, is_same_spot, all_spots}
use Rattle.ep_cell_ranges.proofs.Basics.{same_spot}
use Rattle.ep_cell_ranges.proofs.Overwrites.{of_overwrites}
use Rattle.ep_cell_ranges.proofs.Replaces.{of_replaces}
use Rattle.ep_cell_ranges.proofs.Waits.{of_splits as of_more_splits}
use Rattle.ep_core.specs.Program.{Program}
use Rattle.ep_core.specs.Runs.{Side, left, right}
use Rattle.ep_equalities.specs.declared.pair.Mode.{Mode}
use Rattle.ep_equalities.specs.declared.pair.Mode.TheVariants.{Both, Left, Right}
use Rattle.ep_equalities.specs.declared.pair.Fault.{Fault}
use Rattle.ep_equalities.specs.declared.pair.PairValue.{PairValue}
use Rattle.ep_equalities.specs.Same.{is_same}
use Rattle.ep_evaluation.specs.Given.{cells_of, runs, on, shown_if, faults_on}
use Rattle.ep_evaluation.specs.Accesses.{bounds_of, may_be_odd}
use Rattle.ep_evaluation.specs.Evaluation.{pointer, targets_of, is_null}
use Rattle.ep_evaluation.specs.Laws.{sizes_of}
use Rattle.ep_evaluation.proofs.Basics.{faults_on-none}
use Rattle.ep_transfers.specs.Places.{Places, at_side, on_all, has_places, has_values, is_some_place, places_of}
use Rattle.ep_transfers.specs.Places.{range_faults, aligned_faults}
use Rattle.ep_transfers.specs.Transfers.{Stepped, stepped, if_goes_on, input_pair, assigned}
use Rattle.ep_transfers.specs.Writes.{Item, Underway, item_of, underway, lacks, form_unless, value_of_same, write_side, write_shared}
use Rattle.ep_transfers.specs.Writes.{write_shared_each, write_both, write_now}
use Rattle.ep_movers.specs.Symbols.{Symbol, input_byte}
use Rattle.ep_movers.specs.Movers.{Machine, input_bytes}
use Rattle.ep_mover_bits.specs.Laws.{Inputs, HasBytes}
use Rattle.ep_mover_bits.proofs.Operators.{length_input}
use Rattle.ep_mover_bits.proofs.Forms.{forms_follow}
use Rattle.ep_mover_cells.specs.Known.{Moved}
use Rattle.ep_mover_values.proofs.Constants.{or_first}
use Rattle.ep_mover_values.proofs.Places.{no_faults}
use Rattle.ep_mover_writes.specs.Laws.{IsNumberAt, IsWrittenAt, AreTaken, IsNewCell, IsWellWritten}
use Rattle.ep_mover_writes.proofs.Others.{others_dont_count}
use Rattle.ep_mover_writes.proofs.Writes.{writes_keep}
use Rattle.ep_mover_stores.specs.Laws.{with_input, IsAccess, AreValues, GoesOn, StoresKeepBytes, TakesKeepBytes}
use Rattle.ep_mover_stores.proofs.Cells.{not_lacking, stored_cell, are_new, formed_cell}

-- what holds on each running side
all_on : (mode : Mode) (f : Side → Bool) → ((s : Side) → runs mode s ≡ true → f s ≡ true) → on_all mode f ≡ true
all_on Both f h = and_from (f left) (f right) (h left refl) (h right refl)
all_on Left f h = h left refl
all_on Right f h = h right refl

-- ---- machines

-- a side that isn't written
not_written : (o : Order) (t : IntType) (b q : ℕ) (xs ys : List Symbol) (more : ℕ) (m n : Machine)
    → IsWrittenAt o t b q xs more false m n → IsWrittenAt o t b q ys more false m n
not_written o t b q xs ys more m n w = record {
  bytes = w.bytes;
  written = λ e. absurd (let d : false ≡ true = e in cc);
  memory = λ e. absurd (let d : false ≡ true = e in cc);
  stays = w.stays;
  inputs = w.inputs;
}

as_it_was : (o : Order) (t : IntType) (b q : ℕ) (xs : List Symbol) (m : Machine) → IsWrittenAt o t b q xs 0 false m m
as_it_was o t b q xs m = record {
  bytes = [];
  written = λ e. absurd (let d : false ≡ true = e in cc);
  memory = λ e. absurd (let d : false ≡ true = e in cc);
  stays = λ e. refl;
  inputs = omega arith;
}

abbrev by_side : (l r : Machine) → Side → Machine
by_side l r left = l
by_side l r right = r

-- ---- values of both

met_some : {N : Type 0} (a : N) (o : Option N)
    → (c : N) × (option_map_or (λ c. Some (Num c)) o (Some (Num a)) ≡ Some (Num c))
met_some a None = (a, refl)
met_some a (Some c) = (c, refl)

module _ {N : Type 0} (D : Ops N) where
  pub same_value : (u v : Option (Value N)) (a b : N) → u ≡ Some (Num a) → v ≡ Some (Num b)
      → (c : N) × (value_of_same D u v ≡ Some (Num c))
  same_value u v a b e f =
      let m = met_some a (D.meet a b) in
      (m.0, ap (λ u. value_of_same D u v) e ∙ ap (λ v. value_of_same D (Some (Num a)) v) f ∙ m.1)

-- ---- an access

module _ {N : Type 0} (D : Ops N) (p : Program) (ord : Side → Order) (mode : Mode) (to : PairValue N) (b q n : ℕ)
    (a : IsAccess D p ord mode to b q n) where
  abbrev sizes : List ℕ
  sizes = sizes_of p.blocks

  abbrev f6 : List Fault
  f6 = faults_on mode U6 (λ s. shown_if (is_null D sizes (pointer D (on to s))))

  abbrev f5 : List Fault
  f5 = faults_on mode U5 (λ s. bounds_of D sizes n (targets_of D sizes (pointer D (on to s))))

  abbrev f7 : List Fault
  f7 = faults_on mode U7 (λ s. shown_if (may_be_odd D n (targets_of D sizes (pointer D (on to s)))))

  access_quiet : aligned_faults D sizes mode n to ≡ []
  access_quiet =
      no_faults (f6 ++ f5) f7
      (no_faults f6 f5
      (faults_on-none mode U6 (λ s. shown_if (is_null D sizes (pointer D (on to s))))
      (λ s r. ap shown_if (a.each s r).not_null))
      (faults_on-none mode U5 (λ s. bounds_of D sizes n (targets_of D sizes (pointer D (on to s))))
      (λ s r. (a.each s r).inside)))
      (faults_on-none mode U7 (λ s. shown_if (may_be_odd D n (targets_of D sizes (pointer D (on to s)))))
      (λ s r. ap shown_if (a.each s r).aligned))

  abbrev places : Places
  places = places_of D sizes n n to

  place_on : (s : Side) → runs mode s ≡ true → at_side places s ≡ (b, q) ∷ []
  place_on left r = (a.each left r).place
  place_on right r = (a.each right r).place

  all_places : has_places mode places ≡ true
  all_places =
      all_on mode (λ s. is_some_place (at_side places s)) (λ s r. ap is_some_place (place_on s r))

  same_to : is_same D to ≡ true
  same_to = or_first to.equal _ a.equal

-- an access at one place writes there
module _ {N : Type 0} (D : Ops N) (p : Program) (ord : Side → Order) (k : Known N) (t : IntType) (mode : Mode)
    (to v : PairValue N) (b q : ℕ) (a : IsAccess D p ord mode to b q (bytes_of t))
    (values : (s : Side) → runs mode s ≡ true → (n : N) × ((on v s).value ≡ Some (Num n))) where
  all_values : has_values mode v ≡ true
  all_values = all_on mode (λ s. is_some (on v s).value) (λ s r. ap is_some (values s r).1)

  abbrev at_places : Places
  at_places = places_of D (sizes_of p.blocks) (bytes_of t) (bytes_of t) to

  abbrev next_at : Places → Known N
  next_at ps = write_now D mode (is_same D to) (Int t) ps (item_of D v) k

  assigned_is : assigned D (sizes_of p.blocks) mode (Int t) to v k ≡ stepped [] (Some (next_at at_places))
  assigned_is =
      ap (λ fs. stepped fs (if_goes_on (has_places mode at_places && has_values mode v) (next_at at_places)))
      (access_quiet D p ord mode to b q (bytes_of t) a)
      ∙ ap (λ z. stepped [] (if_goes_on z (next_at at_places)))
      (and_from (has_places mode at_places) (has_values mode v) (all_places D p ord mode to b q (bytes_of t) a)
      all_values)

module _ {N : Type 0} (D : Ops N) (law : Lawful D) (p : Program) (ord : Side → Order) where
  laws : ReplaceLaws D
  laws = of_replaces D (of_splits D law) (of_more_splits D law) (of_overwrites D)

  -- ---- one cell

  module _ (base : Inputs) (ms ns : Side → Machine) (k : Known N) (h : Moved D p ord base ms k) (b q : ℕ) (t : IntType)
      (number : IsNumberAt p b q (bytes_of t)) (s : CellSide) (o : Option (Value N)) (f : Form) (xs : List Symbol) where
    well : (n : N) → o ≡ Some (Num n) → FormFits k.cells (Int t) f → q + bytes_of t ≤ 2 ^ 32 → HasBytes base f xs
        → length xs ≡ bytes_of t → AreTaken (ms left).inputs xs
        → ((i : Side) → IsWrittenAt (ord i) t b q xs 0 (share_memory s (cells_of i)) (ms i) (ns i))
        → IsWellWritten D p ord base ms k ns (stored_cell k s (b, q) t o f)
    well n e fits last has long taken write =
        writes_keep D law p ord base ms ns k h s b q t number xs 0 (stored_cell k s (b, q) t o f)
        (formed_cell k s (b, q) t o f D p ord base ms xs n e fits last has long taken) write

  module _ (base : Inputs) (ms ns : Side → Machine) (k : Known N) (h : Moved D p ord base ms k) (b q : ℕ) (t : IntType)
      (number : IsNumberAt p b q (bytes_of t)) where
    -- ---- one side

    module _ (to v : PairValue N) (xs : Side → List Symbol) where
      left_goes : IsAccess D p ord Left to b q (bytes_of t) → AreValues D p ord base ms k Left t v xs
          → ((i : Side) → IsWrittenAt (ord i) t b q (xs i) 0 (runs Left i) (ms i) (ns i))
          → GoesOn D p ord base ns (assigned D (sizes_of p.blocks) Left (Int t) to v k)
      left_goes a w write =
          let y = w.each left refl in
          let z = well base ms ns k h b q t number cell_side.Left v.left.value v.left.form (xs left) y.n y.value
          (w.fits left refl).form a.last y.form y.long (w.taken left refl) by in
          record {
            next = replaced D (place_of k.model (stored_cell k cell_side.Left (b, q) t v.left.value v.left.form))
                (stored_cell k cell_side.Left (b, q) t v.left.value v.left.form ∷ []) k;
            is = assigned_is D p ord k t Left to v b q a (λ s r. ((w.each s r).n, (w.each s r).value))
                ∙ ap (λ qs. stepped [] (Some (write_side D left (Int t) qs (underway k (item_of D v))).known))
                (place_on D p ord Left to b q (bytes_of t) a left refl);
            moved = z.moved;
          }
        where
          by : (i : Side) → IsWrittenAt (ord i) t b q (xs left) 0 (share_memory cell_side.Left (cells_of i)) (ms i) (ns i)
          by left = write left
          by right = not_written (ord right) t b q (xs right) (xs left) 0 (ms right) (ns right) (write right)

      right_goes : IsAccess D p ord Right to b q (bytes_of t) → AreValues D p ord base ms k Right t v xs
          → ((i : Side) → IsWrittenAt (ord i) t b q (xs i) 0 (runs Right i) (ms i) (ns i))
          → GoesOn D p ord base ns (assigned D (sizes_of p.blocks) Right (Int t) to v k)
      right_goes a w write =
          let y = w.each right refl in
          let z = well base ms ns k h b q t number cell_side.Right v.right.value v.right.form (xs right) y.n y.value
          (w.fits right refl).form a.last y.form y.long (w.taken right refl) by in
          record {
            next = replaced D (place_of k.model (stored_cell k cell_side.Right (b, q) t v.right.value v.right.form))
                (stored_cell k cell_side.Right (b, q) t v.right.value v.right.form ∷ []) k;
            is = assigned_is D p ord k t Right to v b q a (λ s r. ((w.each s r).n, (w.each s r).value))
                ∙ ap (λ qs. stepped [] (Some (write_side D right (Int t) qs (underway k (item_of D v))).known))
                (place_on D p ord Right to b q (bytes_of t) a right refl);
            moved = z.moved;
          }
        where
          by : (i : Side) → IsWrittenAt (ord i) t b q (xs right) 0 (share_memory cell_side.Right (cells_of i)) (ms i)
              (ns i)
          by right = write right
          by left = not_written (ord left) t b q (xs left) (xs right) 0 (ms left) (ns left) (write left)

    -- ---- both

    abbrev both_places : Places
    both_places = record { left = (b, q) ∷ []; right = (b, q) ∷ [] }

    module _ (to v : PairValue N) (a : IsAccess D p ord Both to b q (bytes_of t))
        (values : (s : Side) → runs Both s ≡ true → (n : N) × ((on v s).value ≡ Some (Num n))) where
      both_is : (same : Bool) → is_same D v ≡ same → assigned D (sizes_of p.blocks) Both (Int t) to v k
          ≡ stepped [] (Some (write_both D same (Int t) both_places (underway k (item_of D v))).known)
      both_is same e =
          assigned_is D p ord k t Both to v b q a values
          ∙ ap (λ z. stepped [] (Some (write_both D (z && is_same D v) (Int t)
          (places_of D (sizes_of p.blocks) (bytes_of t) (bytes_of t) to) (underway k (item_of D v))).known))
          (same_to D p ord Both to b q (bytes_of t) a)
          ∙ ap (λ z. stepped [] (Some (write_both D z (Int t)
          (places_of D (sizes_of p.blocks) (bytes_of t) (bytes_of t) to) (underway k (item_of D v))).known)) e
          ∙ ap (λ qs. stepped [] (Some (write_both D same (Int t) (record {
            left = qs;
            right =
                at_side (places_of D (sizes_of p.blocks) (bytes_of t) (bytes_of t) to) right;
          })
          (underway k (item_of D v))).known)) (place_on D p ord Both to b q (bytes_of t) a left refl)
          ∙ ap (λ qs. stepped [] (Some (write_both D same (Int t) (record { left = (b, q) ∷ []; right = qs })
          (underway k (item_of D v))).known)) (place_on D p ord Both to b q (bytes_of t) a right refl)

      -- what both write together
      shared_is : (write_both D true (Int t) both_places (underway k (item_of D v))).known
          ≡ (write_shared D (Int t) (b, q) (underway k (item_of D v))).known
      shared_is =
          ap (λ z. (cond z (write_shared D (Int t) (b, q) (underway k (item_of D v)))
          (write_shared_each D (Int t) (all_spots ((b, q) ∷ []) ((b, q) ∷ [])) (underway k (item_of D v)))).known)
          (same_spot (b, q) (b, q) refl)

    module _ (to v : PairValue N) (xs : Side → List Symbol) (a : IsAccess D p ord Both to b q (bytes_of t))
        (w : AreValues D p ord base ms k Both t v xs)
        (write : (i : Side) → IsWrittenAt (ord i) t b q (xs i) 0 true (ms i) (ns i)) where
      each_value : (s : Side) → runs Both s ≡ true → (n : N) × ((on v s).value ≡ Some (Num n))
      each_value s r = ((w.each s r).n, (w.each s r).value)

      together : is_same D v ≡ true → GoesOn D p ord base ns (assigned D (sizes_of p.blocks) Both (Int t) to v k)
      together e =
          let y = w.each left refl in
          let z = w.each right refl in
          let one = w.same refl e in
          let u = same_value D v.left.value v.right.value y.n z.n y.value z.value in
          let form : common_form v.left.form v.right.form ≡ v.left.form
          = ap (λ b. cond b v.left.form None) ((forms_follow base).same v.left.form v.right.form (xs left) y.form
          (subst (λ ws. HasBytes base v.right.form ws) (sym one) z.form)) in
          let good = well base ms ns k h b q t number cell_side.Shared (value_of_same D v.left.value v.right.value)
          (common_form v.left.form v.right.form) (xs left) u.0 u.1
          (subst (FormFits k.cells (Int t)) (sym form) (w.fits left refl).form) a.last
          (subst (λ f. HasBytes base f (xs left)) (sym form) y.form) y.long (w.taken left refl) (by one) in
          record {
            next = (write_shared D (Int t) (b, q) (underway k (item_of D v))).known;
            is = both_is to v a each_value true e ∙ ap (λ l. stepped [] (Some l)) (shared_is to v a each_value);
            moved = good.moved;
          }
        where
          by : xs left ≡ xs right → (i : Side)
              → IsWrittenAt (ord i) t b q (xs left) 0 (share_memory cell_side.Shared (cells_of i)) (ms i) (ns i)
          by one left = write left
          by one right =
              subst (λ ws. IsWrittenAt (ord right) t b q ws 0 true (ms right) (ns right)) (sym one) (write right)

      -- ---- the left, then the right

      abbrev left_cell : Cell N
      left_cell = stored_cell k cell_side.Left (b, q) t v.left.value v.left.form

      abbrev between : Known N
      between = replaced D (place_of k.model left_cell) (left_cell ∷ []) k

      abbrev half : Side → Machine
      half = by_side (ns left) (ms right)

      left_well : IsWellWritten D p ord base ms k half left_cell
      left_well =
          let y = w.each left refl in
          well base ms half k h b q t number cell_side.Left v.left.value v.left.form (xs left) y.n y.value
          (w.fits left refl).form a.last y.form y.long (w.taken left refl) by
        where
          by : (i : Side) → IsWrittenAt (ord i) t b q (xs left) 0 (share_memory cell_side.Left (cells_of i)) (ms i)
              (half i)
          by left = write left
          by right = as_it_was (ord right) t b q (xs left) (ms right)

      abbrev formed : Form
      formed = form_by_replace D (place_of k.model left_cell) k v.right.form

      right_well : IsWellWritten D p ord base half between ns
          (stored_cell between cell_side.Right (b, q) t v.right.value formed)
      right_well =
          let z = w.each right refl in
          let waits = left_well.waits v.right.form (xs right) z.form (w.taken right refl) in
          let same : (ns left).inputs ≡ (ms left).inputs + 0 = (write left).inputs in
          well base half ns between left_well.moved b q t number cell_side.Right v.right.value formed (xs right) z.n
          z.value
          (laws.fits k (place_of k.model left_cell) (left_cell ∷ []) h.state.cells (Int t) v.right.form
          (w.fits right refl).form) a.last
          (subst (λ f. HasBytes base f (xs right)) (sym waits) z.form) z.long
          (λ j i m e. let l = w.taken right refl j i m e in omega (arith, same, l)) by
        where
          by : (i : Side) → IsWrittenAt (ord i) t b q (xs right) 0 (share_memory cell_side.Right (cells_of i)) (half i)
              (ns i)
          by right = write right
          by left = as_it_was (ord left) t b q (xs right) (ns left)

      apart : is_same D v ≡ false → GoesOn D p ord base ns (assigned D (sizes_of p.blocks) Both (Int t) to v k)
      apart e = record {
        next = replaced D (place_of between.model (stored_cell between cell_side.Right (b, q) t v.right.value formed))
            (stored_cell between cell_side.Right (b, q) t v.right.value formed ∷ []) between;
        is = both_is to v a each_value false e;
        moved = right_well.moved;
      }

      both_go : GoesOn D p ord base ns (assigned D (sizes_of p.blocks) Both (Int t) to v k)
      both_go = by (is_same D v) refl
        where
          by : (z : Bool) → is_same D v ≡ z → GoesOn D p ord base ns (assigned D (sizes_of p.blocks) Both (Int t) to v k)
          by true e = together e
          by false e = apart e

    -- ---- an input

    module _ (to : PairValue N) (a : IsAccess D p ord Both to b q (bytes_of t))
        (write : (i : Side)
        → IsWrittenAt (ord i) t b q (input_bytes (ms left).inputs 0 (bytes_of t)) 1 true (ms i) (ns i)) where
      abbrev v : PairValue N
      v = input_pair D Both t (Int t)

      abbrev count : ℕ
      count = (ms left).inputs

      abbrev name : CellName
      name = record { side = cell_side.Shared; block = b; offset = q; t = t }

      abbrev base_then : Inputs
      base_then = with_input base count name

      old_same : (i : ℕ) → i < count → base_then i ≡ base i
      old_same i l = by (nat_eq i count) refl
        where
          by : (z : Bool) → nat_eq i count ≡ z → cond z name (base i) ≡ base i
          by false e = refl
          by true e = absurd (let f = eqb-true i count e in let y : ⊥ = omega (arith, f, l) in y)

      new_is : base_then count ≡ name
      new_is = ap (λ z. cond z name (base count)) (nat_eq-self count)

      known_still : Moved D p ord base_then ms k
      known_still = others_dont_count D p ord base base_then ms k h old_same

      abbrev n : N
      n = D.convert (D.top t) t

      met : (c : N) × (value_of_same D (Some (Num n)) (Some (Num n)) ≡ Some (Num c))
      met = same_value D (Some (Num n)) (Some (Num n)) n n refl refl

      abbrev input_cell : Cell N
      input_cell = stored_cell k cell_side.Shared (b, q) t (value_of_same D v.left.value v.right.value) None

      input_of : (i m l j r c : ℕ) → slice_get (input_bytes i r c) j ≡ Some (input_byte m l) → m ≡ i
      input_of i m l j r zero e = absurd (cc)
      input_of i m l zero r (suc c) e =
          let f : input_byte i r ≡ input_byte m l = some-injective e in cc
      input_of i m l (suc j) r (suc c) e = input_of i m l j (suc r) c e

      form_none : (z : Bool) → form_unless z None ≡ None
      form_none true = refl
      form_none false = refl

      input_new : IsNewCell D p ord base_then ms k cell_side.Shared b q t (input_bytes count 0 (bytes_of t)) 1 input_cell
      input_new =
          let lack = not_lacking (value_of_same D v.left.value v.right.value) met.0 met.1 in
          let none : input_cell.form ≡ None = form_none (lacks false (value_of_same D v.left.value v.right.value)) in
          let is : form_of_cell input_cell ≡ Some (Bits name 0 (bits_of t) ∷ [])
          = ap (λ z. cond z None (form_or input_cell.form (own_form input_cell (Int t)))) lack
          ∙ ap (λ f. form_or f (own_form input_cell (Int t))) none in
          let law = (forms_follow base_then).input t count in
          record {
            placed = record { side = refl; block = refl; offset = refl; what = refl };
            sure = lack;
            form = subst (λ f. HasBytes base_then f (input_bytes count 0 (bytes_of t))) (sym is)
                (subst (λ c. HasBytes base_then (Some (Bits c 0 (bits_of t) ∷ [])) (input_bytes count 0 (bytes_of t))) new_is
                law);
            long = length_input count 0 (bytes_of t);
            stored = λ ss e. absurd (let f : None ≡ Some ss = sym none ∙ e in cc);
            taken = λ j i m e. (let f = input_of count i m j 0 (bytes_of t) e in omega (arith, f));
            input = λ i l u. (
              refl,
              none,
              subst (λ c. IsNamed c input_cell)
                  (sym new_is ∙ ap base_then (sym (only i l u)))
                  (record { side = refl; block = refl; offset = refl; what = refl }),
            );
            few = omega arith;
            new = are_new k cell_side.Shared (b, q) t (value_of_same D v.left.value v.right.value) None met.0 met.1 tt a.last;
          }
        where
          only : (i : ℕ) → count ≤ i → i < count + 1 → i ≡ count
          only i l u = omega (arith, l, u)

      input_goes : GoesOn D p ord base_then ns (assigned D (sizes_of p.blocks) Both (Int t) to v k)
      input_goes =
          let good = writes_keep D law p ord base_then ms ns k known_still cell_side.Shared b q t number
          (input_bytes count 0 (bytes_of t)) 1 input_cell input_new by in
          record {
            next = (write_shared D (Int t) (b, q) (underway k (item_of D v))).known;
            is = both_is to v a each true refl ∙ ap (λ l. stepped [] (Some l)) (shared_is to v a each);
            moved = good.moved;
          }
        where
          by : (i : Side) → IsWrittenAt (ord i) t b q (input_bytes count 0 (bytes_of t)) 1
              (share_memory cell_side.Shared (cells_of i)) (ms i) (ns i)
          by left = write left
          by right = write right

          each : (s : Side) → runs Both s ≡ true → (n : N) × ((on v s).value ≡ Some (Num n))
          each left r = (n, refl)
          each right r = (n, refl)

pub stores_keep : {N : Type 0} (D : Ops N) → Lawful D → StoresKeepBytes D
stores_keep D law p ord base ms ns k h b q t number Left to v xs a w write =
    left_goes D law p ord base ms ns k h b q t number to v xs a w write
stores_keep D law p ord base ms ns k h b q t number Right to v xs a w write =
    right_goes D law p ord base ms ns k h b q t number to v xs a w write
stores_keep D law p ord base ms ns k h b q t number Both to v xs a w write =
    both_go D law p ord base ms ns k h b q t number to v xs a w write

pub takes_keep : {N : Type 0} (D : Ops N) → Lawful D → TakesKeepBytes D
takes_keep D law p ord base ms ns k h b q t number to a write =
    input_goes D law p ord base ms ns k h b q t number to a write
