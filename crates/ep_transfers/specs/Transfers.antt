-- What each statement without statements in it does to what is known of two memories, and so blocks that come and go
-- (this
-- project's rules, after Miné 2006 and Delmas, Ouadjaout and Miné 2021).
use Rattle.std.specs.Prelude.{ℕ, zero, suc, ◌+◌, ℤ, pos, Bool, true, false, ◌&&◌, if◌then◌else◌, List, [], ◌∷◌, ◌++◌}
use Rattle.std.specs.Prelude.{map, slice_get, Option, Some, None, is_some, unwrap_or}
use Rattle.ep_int.specs.declared.types.IntType.{IntType}
use Rattle.ep_int.specs.declared.types.IntType.TheVariants.{U8}
use Rattle.ep_int.specs.declared.types.Scalar.{Scalar}
use Rattle.ep_int.specs.declared.types.Scalar.TheVariants.{Int, Pointer}
use Rattle.ep_int.specs.Memory.{contains}
use Rattle.ep_int.specs.Types.{size_of}
use Rattle.ep_layout.specs.declared.types.Leaf.{Leaf}
use Rattle.ep_layout.specs.Table as table
use Rattle.ep_alarms.specs.declared.types.AlarmKind.TheVariants.{U4, U10, E1, E2}
use Rattle.ep_bitslice.specs.declared.cell.Side.{Side as CellSide}
use Rattle.ep_bitslice.specs.declared.cell.Side.TheVariants as cell_side
use Rattle.ep_domain.specs.Domain.{Ops}
use Rattle.ep_pointers.specs.Value.{null_alone, one_target}
use Rattle.ep_cells.specs.declared.cell.Value.TheVariants.{Num}
use Rattle.ep_cells.specs.Forms.{Fate}
use Rattle.ep_cells.specs.Kill.{leaf_at, is_in_leaf, killed_cells}
use Rattle.ep_cells.specs.States.{Known}
use Rattle.ep_reads.specs.declared.read.ReadValue.{ReadValue}
use Rattle.ep_cell_ranges.specs.Moves.{blurred_each}
use Rattle.ep_core.specs.Program.{Expr, Dest, Simple, nothing, eval, assign, clear, copy_aggregate, copy_bytes, fill}
use Rattle.ep_core.specs.Program.{input, output, read_bytes, write_bytes, returns, Block, Program}
use Rattle.ep_core.specs.Runs.{Side, left, right}
use Rattle.ep_equalities.specs.declared.pair.Mode.{Mode}
use Rattle.ep_equalities.specs.declared.pair.Mode.TheVariants.{Both, Left, Right}
use Rattle.ep_equalities.specs.declared.pair.Fault.{Fault}
use Rattle.ep_equalities.specs.declared.pair.PairValue.{PairValue}
use Rattle.ep_equalities.specs.declared.pair.SideValue.{SideValue}
use Rattle.ep_equalities.specs.Same.{is_same}
use Rattle.ep_evaluation.specs.Given.{Given, cells_of, alone, is_both, nothing as no_side, pair, pair_on, fault}
use Rattle.ep_evaluation.specs.Given.{no_range, shown_if, faults_on}
use Rattle.ep_evaluation.specs.Operators.{number_in}
use Rattle.ep_evaluation.specs.Accesses.{reads_of, joined_reads, form_of_reads, is_unset, is_mixed, are_shared}
use Rattle.ep_evaluation.specs.Evaluation.{expression, place, constant_given, pointer_given}
use Rattle.ep_transfers.specs.Places.{Places, at_side, on_all, has_places, has_values, is_one, moved_spots}
use Rattle.ep_transfers.specs.Places.{moved_places, places_of, range_faults, aligned_faults}
use Rattle.ep_transfers.specs.Writes.{Item, Underway, item_of, underway, write_now, write_run, blurred_side}
use Rattle.ep_transfers.specs.Copies.{Leaves, copied, can_copy, overlap_faults}

-- the faults of what is done, and what is known after it, if each running side goes on
pub record Stepped (N : Type 0) : Type 0 where
  pub faults : List Fault
  pub next : Option (Known N)

abbrev pub stepped : {N : Type 0} → List Fault → Option (Known N) → Stepped N
stepped fs k = record { faults = fs; next = k }

abbrev pub if_goes_on : {N : Type 0} → Bool → Known N → Option (Known N)
if_goes_on true k = Some k
if_goes_on false k = None

-- after these faults
abbrev pub after_faults : {N : Type 0} → List Fault → Stepped N → Stepped N
after_faults fs s = stepped (fs ++ s.faults) s.next

-- after the faults of what is evaluated
abbrev pub with_one : {N : Type 0} → Given N → (PairValue N → Stepped N) → Stepped N
with_one x go = after_faults x.faults (go x.pair)

abbrev pub with_two : {N : Type 0} → Given N → Given N → (PairValue N → PairValue N → Stepped N) → Stepped N
with_two x y go = after_faults (x.faults ++ y.faults) (go x.pair y.pair)

-- an input or output where one side runs alone
abbrev pub alone_faults : Mode → List Fault
alone_faults m = if is_both m then [] else fault E2 no_range no_range

-- ---- blocks that come and go

abbrev pub cells_of_mode : Mode → CellSide
cells_of_mode Both = cell_side.Shared
cells_of_mode Left = cell_side.Left
cells_of_mode Right = cell_side.Right

abbrev pub fate_off_blocks : (blocks : List ℕ) → Fate
fate_off_blocks bs n = if contains n.block bs then None else Some n

module _ {N : Type 0} (D : Ops N) where
  abbrev pub to_block : Mode → (number : ℕ) → PairValue N
  to_block m b = (pointer_given D (one_target b (D.single (pos 0))) m).pair

  -- ---- items

  abbrev pub undefined_item : Item N
  undefined_item = record { pair = pair no_side no_side true; left_maybe = true; right_maybe = true; same = true }

  abbrev pub zero_item : Scalar → Item N
  zero_item (Int t) = item_of D (constant_given D t (pos 0) Both).pair
  zero_item Pointer = item_of D (pointer_given D null_alone Both).pair

  -- an input, as the scalar that it goes to: the same on both sides where both run
  abbrev pub input_pair : Mode → IntType → Scalar → PairValue N
  input_pair m t w = pair_on m (λ s. record { value = Some (Num (input_number t w)); form = None }) (is_both m)
    where
      input_number : IntType → Scalar → N
      input_number t (Int u) = D.convert (D.top t) u
      input_number t Pointer = D.top t

  -- ---- output

  abbrev pub shown_number : Option N → ℤ × ℤ
  shown_number None = no_range
  shown_number (Some n) = D.range n

  abbrev pub shown_value : SideValue N → ℤ × ℤ
  shown_value x = shown_number (number_in x.value)

  abbrev pub differ_faults : (same : Bool) → PairValue N → List Fault
  differ_faults true v = []
  differ_faults false v = fault E1 (shown_value v.left) (shown_value v.right)

  -- a value, or a byte, is put out
  abbrev pub differs : Mode → PairValue N → List Fault
  differs Both v = differ_faults (is_same D v) v
  differs Left v = []
  differs Right v = []

  -- sides without a value put out nothing
  abbrev pub differs_if : (there : Bool) → Mode → PairValue N → List Fault
  differs_if true m v = differs m v
  differs_if false m v = []

  abbrev pub put_out : Mode → PairValue N → Known N → Stepped N
  put_out m v k = stepped (alone_faults m ++ differs_if (has_values m v) m v) (if_goes_on (has_values m v) k)

  -- byte i of the places is put out, and so are those after it
  abbrev pub byte_reads : Known N → Places → (byte : ℕ) → Side → List (ReadValue N)
  byte_reads k p i s = reads_of D k (cells_of s) (Int U8) (moved_spots i (at_side p s))

  abbrev pub byte_pair : Mode → (same_from : Bool) → Known N → Places → (byte : ℕ) → PairValue N
  byte_pair m same k p i =
      pair_on m
      (λ s. record { value = joined_reads D (byte_reads k p i s); form = form_of_reads (byte_reads k p i s) })
      (same && on_all m (λ s. are_shared k (cells_of s) (Int U8) (moved_spots i (at_side p s))))

  abbrev pub byte_faults : Mode → Known N → Places → (byte : ℕ) → List Fault
  byte_faults m k p i =
      faults_on m U4 (λ s. shown_if (is_unset (byte_reads k p i s)))
      ++ faults_on m U10 (λ s. shown_if (is_mixed (byte_reads k p i s)))

  abbrev pub bytes_out : Mode → (same_from : Bool) → Known N → Places → (from count : ℕ) → Stepped N
  bytes_out m same k p i zero = stepped [] (Some k)
  bytes_out m same k p i (suc n) =
      after_faults (byte_faults m k p i)
      (if has_values m (byte_pair m same k p i)
      then after_faults (differs m (byte_pair m same k p i)) (bytes_out m same k p (i + 1) n)
      else stepped [] None)

  -- no bytes go to the places of each running side
  abbrev pub none_written : Mode → Places → Known N → Known N
  none_written Both p k =
      blurred_each D cell_side.Right zero p.right (blurred_each D cell_side.Left zero p.left k)
  none_written Left p k = blurred_each D cell_side.Left zero p.left k
  none_written Right p k = blurred_each D cell_side.Right zero p.right k

  -- ---- with the sizes of the blocks
  module _ (sizes : List ℕ) where
    -- a value goes to the places of its address
    abbrev pub assigned : Mode → Scalar → (to v : PairValue N) → Known N → Stepped N
    assigned m w to v k = at_places (places_of D sizes (size_of k.model w) (size_of k.model w) to)
      where
        at_places : Places → Stepped N
        at_places p =
            stepped (aligned_faults D sizes m (size_of k.model w) to)
            (if_goes_on (has_places m p && has_values m v) (write_now D m (is_same D to) w p (item_of D v) k))

    -- ---- at a run of n bytes
    module _ (m : Mode) (n : ℕ) where
      -- where each running side has a place
      abbrev pub at_run : (to : PairValue N) → (Places → Known N → Known N) → Known N → Stepped N
      at_run to go k = at_places (places_of D sizes n 1 to)
        where
          at_places : Places → Stepped N
          at_places p = stepped (range_faults D sizes m n to) (if_goes_on (has_places m p) (go p k))

      abbrev pub read_in : (to : PairValue N) → Known N → Stepped N
      read_in to k =
          at_run to
          (λ p k. (write_run D m (is_same D to) (Int U8) p 0 n
          (underway k (item_of D (input_pair m U8 (Int U8))))).known) k

      abbrev pub written_out : (from : PairValue N) → Known N → Stepped N
      written_out from k = at_places (places_of D sizes n 1 from)
        where
          at_places : Places → Stepped N
          at_places p =
              after_faults (range_faults D sizes m n from)
              (if has_places m p then bytes_out m (is_same D from) k p 0 n else stepped [] None)

      -- One place on each running side takes the bytes in turn. A side with several may have been written in some way.
      abbrev pub fill_side : Side → Places → Underway N → Underway N
      fill_side s p u =
          if is_one (at_side p s) then write_run D (alone s) false (Int U8) p 0 n u
          else blurred_side D (cells_of s) n (at_side p s) u

      abbrev pub fill_sides : Mode → Places → Underway N → Underway N
      fill_sides Both p u = fill_side right p (fill_side left p u)
      fill_sides Left p u = fill_side left p u
      fill_sides Right p u = fill_side right p u

      abbrev pub fill_places : (same_to : Bool) → Places → Underway N → Underway N
      fill_places same p u =
          if on_all m (λ s. is_one (at_side p s)) then write_run D m same (Int U8) p 0 n u else fill_sides m p u

      abbrev pub filled_with : (to v : PairValue N) → Known N → Stepped N
      filled_with to v k = at_places (places_of D sizes n 1 to)
        where
          at_places : Places → Stepped N
          at_places p =
              stepped (range_faults D sizes m n to)
              (if_goes_on (has_places m p && has_values m v) (fill_places (is_same D to) p (underway k (item_of D
              v))).known)

      abbrev pub copy : Leaves → (to from : PairValue N) → Known N → Stepped N
      copy ls to from k = at_places (places_of D sizes n 1 to) (places_of D sizes n 1 from)
        where
          at_places : Places → Places → Stepped N
          at_places p q =
              stepped
              (range_faults D sizes m n to ++ (range_faults D sizes m n from
              ++ overlap_faults D sizes m (is_some ls) n to from))
              (if_goes_on (can_copy D m (is_some ls) n p q)
              (copied D m (is_same D to && is_same D from) ls p q n k))

      -- 0 or null at each leaf, and every other byte undefined
      module _ (leaves : List Leaf) (same_to : Bool) (p : Places) where
        abbrev pub cleared_here : (offset : ℕ) → Option Scalar → (inside : Bool) → Known N → Known N
        cleared_here o (Some w) inside k = write_now D m same_to w (moved_places o p) (zero_item w) k
        cleared_here o None true k = k
        cleared_here o None false k = write_now D m same_to (Int U8) (moved_places o p) undefined_item k

        abbrev pub cleared_from : (offset count : ℕ) → Known N → Known N
        cleared_from o zero k = k
        cleared_from o (suc more) k =
            cleared_from (o + 1) more (cleared_here o (leaf_at leaves o) (is_in_leaf k.model leaves o) k)

        -- no bytes at all may still lie inside of a pointer, which is then undefined
        abbrev pub cleared_bytes : (bytes : ℕ) → Known N → Known N
        cleared_bytes zero k = none_written m p k
        cleared_bytes (suc more) k = cleared_from 0 (suc more) k

      abbrev pub cleared : List Leaf → (to : PairValue N) → Known N → Stepped N
      cleared leaves to k = at_run to (λ p k. cleared_bytes leaves (is_same D to) p n k) k

-- ---- of a program
module _ {N : Type 0} (D : Ops N) (p : Program) where
  abbrev pub sizes : List ℕ
  sizes = map (λ (b : Block). b.size) p.blocks

  abbrev pub gives : Expr → Mode → Known N → Given N
  gives e m k = (expression D sizes e).gives m k

  abbrev pub bytes_of_type : (ty : ℕ) → ℕ
  bytes_of_type ty = unwrap_or (table.size p.types ty) 0

  -- one that isn't there has no bytes
  abbrev pub leaves_in : Option Block → List Leaf
  leaves_in None = []
  leaves_in (Some x) = table.leaves p.types x.ty

  abbrev pub bytes_in : Option Block → ℕ
  bytes_in None = 0
  bytes_in (Some x) = x.size

  abbrev pub killed_block : CellSide → (number : ℕ) → Option Block → Known N → Known N
  killed_block s b x k = record k { cells = killed_cells k.model s b (leaves_in x) (bytes_in x) k.cells }

  -- blocks that are entered, or left
  abbrev pub killed_blocks : CellSide → List ℕ → Known N → Known N
  killed_blocks s [] k = k
  killed_blocks s (b ∷ bs) k = killed_blocks s bs (killed_block s b (slice_get p.blocks b) k)

  abbrev pub entered : Mode → List ℕ → Known N → Known N
  entered m bs k = killed_blocks (cells_of_mode m) bs k

  abbrev pub taken_in : Mode → IntType → Option Dest → Known N → Stepped N
  taken_in m t None k = stepped (alone_faults m) (Some k)
  taken_in m t (Some d) k =
      with_one (place D sizes d.place m k)
      (λ to. after_faults (alone_faults m) (assigned D sizes m d.what to (input_pair D m t d.what) k))

  abbrev pub returned : Mode → (result : Option (ℕ × Scalar)) → Option Expr → Known N → Stepped N
  returned m r None k = stepped [] (Some k)
  returned m None (Some e) k = stepped (gives e m k).faults None
  returned m (Some r) (Some e) k = with_one (gives e m k) (λ v. assigned D sizes m r.1 (to_block D m r.0) v k)

  abbrev pub simple_step : Mode → (result : Option (ℕ × Scalar)) → Simple → Known N → Stepped N
  simple_step m r nothing k = stepped [] (Some k)
  simple_step m r (eval e) k = with_one (gives e m k) (λ v. stepped [] (if_goes_on (has_values m v) k))
  simple_step m r (assign w a e) k =
      with_two (place D sizes a m k) (gives e m k) (λ to v. assigned D sizes m w to v k)
  simple_step m r (clear a ty) k =
      with_one (place D sizes a m k)
      (λ to. cleared D sizes m (bytes_of_type ty) (table.leaves p.types ty) to k)
  simple_step m r (copy_aggregate a b ty) k =
      with_two (place D sizes a m k) (place D sizes b m k)
      (λ to from. copy D sizes m (bytes_of_type ty) (Some (table.leaves p.types ty)) to from k)
  simple_step m r (copy_bytes a b n) k =
      with_two (gives a m k) (gives b m k) (λ to from. copy D sizes m n None to from k)
  simple_step m r (fill a e n) k =
      with_two (gives a m k) (gives e m k) (λ to v. filled_with D sizes m n to v k)
  simple_step m r (input t d) k = taken_in m t d k
  simple_step m r (output t e) k = with_one (gives e m k) (λ v. put_out D m v k)
  simple_step m r (read_bytes e n) k =
      with_one (gives e m k) (λ to. after_faults (alone_faults m) (read_in D sizes m n to k))
  simple_step m r (write_bytes e n) k =
      with_one (gives e m k) (λ from. after_faults (alone_faults m) (written_out D sizes m n from k))
  simple_step m r (returns e) k = returned m r e k
