-- What is known after a place is cleared holds of the memories in which each running machine has cleared its own.
use Rattle.std.proofs.Common.{◌≡◌, ℕ, zero, suc, ◌+◌, ◌*◌, ◌%◌, ◌^◌, ◌<◌, ◌≤◌, pos, Bool, true, false, List, [], ◌++◌}
use Rattle.ep_cells.proofs.Entry.{leaf_inside}
use Rattle.ep_int.proofs.Arithmetic.{zero_in_range}
use Rattle.std.proofs.Common.{Option, Some, None, refl, sym, ap, ◌∙◌, subst, arith}
use Rattle.std.proofs.Math.Nat.{mod-eq_of_lt}
use Rattle.ep_int.specs.declared.types.IntType.{IntType}
use Rattle.ep_int.specs.declared.types.IntType.TheVariants.{U8}
use Rattle.ep_int.specs.declared.types.Model.{Model}
use Rattle.ep_int.specs.declared.types.Order.{Order}
use Rattle.ep_int.specs.declared.types.Scalar.{Scalar}
use Rattle.ep_int.specs.declared.types.Scalar.TheVariants.{Int, Pointer}
use Rattle.ep_int.specs.Types.{bits_of, size_of, representation}
use Rattle.ep_int.specs.Memory.{Memory, undefined, Value as Datum, int, has, replaced}
use Rattle.ep_int.proofs.Memories.{replaced_covered}
use Rattle.ep_int.proofs.Wrapping.{representation_below}
use Rattle.ep_layout.specs.declared.types.Leaf.{Leaf}
use Rattle.ep_domain.specs.Domain.{Ops}
use Rattle.ep_cells.specs.Kill.{leaf_at, is_in_leaf, AreLeavesIn}
use Rattle.ep_cells.specs.States.{Known}
use Rattle.ep_cells.specs.Meaning.{Memories, In}
use Rattle.ep_core.specs.Program.{Program}
use Rattle.ep_core.specs.Runs.{Side, left, right}
use Rattle.ep_equalities.specs.declared.pair.Mode.{Mode}
use Rattle.ep_equalities.specs.declared.pair.Mode.TheVariants.{Both, Left, Right}
use Rattle.ep_evaluation.specs.Given.{on}
use Rattle.ep_evaluation.specs.Operators.{constant_form}
use Rattle.ep_cell_ranges.specs.Spots.{Spot}
use Rattle.ep_cell_ranges.specs.Follow.{FormHas}
use Rattle.ep_evaluation.specs.Laws.{IsState, SideFits}
use Rattle.ep_evaluation.proofs.Assuming.{zero_type}
use Rattle.ep_evaluation.proofs.Conversions.{constant_sound}
use Rattle.ep_transfers.specs.Places.{Places, moved_places}
use Rattle.ep_transfers.specs.Writes.{Item, Underway, underway, maybe_on, value_of_same, write}
use Rattle.ep_transfers.specs.Transfers.{undefined_item, zero_item, cleared_here, cleared_from}
use Rattle.ep_transfers.specs.Laws.{CellLaws}
use Rattle.ep_transfers.proofs.Sides.{same_allowed}
use Rattle.ep_transfers.proofs.Changes.{IsSide}
use Rattle.ep_transfers.proofs.Assigned.{sure_allowed, some_is}
use Rattle.ep_transfers.proofs.Evaluated.{goes_state}
use Rattle.ep_transfers.proofs.Alike.{IsAlike, AreAlike, alike_itself, in_like}
use Rattle.ep_transfers.proofs.Patches.{Patch, patched, eased_memory, patched_alike}
use Rattle.ep_transfers.proofs.Eased.{eased_on, eased_first}
use Rattle.ep_transfers.proofs.RunSteps.{all_blocks, IsAt, at_with, Changed, IsSame, Waits, step_goes}
use Rattle.ep_transfers.proofs.RunSteps.{RunSpotted, moved_at, spotted_at}
use Rattle.ep_transfers.proofs.ClearPatches.{zero_of, cleared_byte, clear_here, clear_patches}
use Rattle.ep_transfers.proofs.ClearPatches.{are_patches, cover_all, plain_byte}

-- ---- what waits to be written at a leaf, or at a byte

form_alone : (r m : ℕ) → r + m * 0 ≡ r
form_alone r m = omega arith

constant_has : (os : Order × Order) (m : Memories) (t : IntType) → FormHas os m (Int t) (int (pos 0))
    (constant_form t (pos 0))
constant_has os m t =
    sym (ap (λ x. x % 2 ^ bits_of t) (form_alone (representation t (pos 0)) (2 ^ bits_of t))
    ∙ mod-eq_of_lt (representation_below t (pos 0)))

abbrev pub same_on_both : Option Datum → Side → Option Datum
same_on_both x s = x

module _ {N : Type 0} (D : Ops N) (laws : CellLaws D) (p : Program) (ord : Side → Order) where
  number_fits : (k : Known N) → IsState D p ord k → (t : IntType) (s : Side)
      → SideFits D p ord k (Int t) (on (zero_item D (Int t)).pair s)
  number_fits k i t left =
      (constant_sound D laws.domain p ord t (pos 0) (zero_in_range t) (λ s m. has (int (pos 0))) (λ s m. refl)).fits k i Both
      left
  number_fits k i t right =
      (constant_sound D laws.domain p ord t (pos 0) (zero_in_range t) (λ s m. has (int (pos 0))) (λ s m. refl)).fits k i Both
      right

  zero_side : (k : Known N) (m : Memories) → IsState D p ord k → (w : Scalar) (s : Side)
      → IsSide D k m w (on (zero_item D w).pair s) (maybe_on (zero_item D w) s) (Some (zero_of w))
  zero_side k m i (Int t) left = record {
    sort = tt;
    rising = tt;
    form = (number_fits k i t left).form;
    allowed = (zero_in_range t, laws.domain.single_holds (pos 0) zero_type);
    says = λ z e l. subst (λ x. FormHas k.orders m (Int t) x (constant_form t (pos 0))) (some_is (int (pos 0)) z e)
        (constant_has k.orders m t);
  }
  zero_side k m i (Int t) right = record {
    sort = tt;
    rising = tt;
    form = (number_fits k i t right).form;
    allowed = (zero_in_range t, laws.domain.single_holds (pos 0) zero_type);
    says = λ z e l. subst (λ x. FormHas k.orders m (Int t) x (constant_form t (pos 0))) (some_is (int (pos 0)) z e)
        (constant_has k.orders m t);
  }
  zero_side k m i Pointer left = record { sort = tt; rising = tt; form = tt; allowed = refl; says = λ z e l. tt }
  zero_side k m i Pointer right = record { sort = tt; rising = tt; form = tt; allowed = refl; says = λ z e l. tt }

  zero_same : (k : Known N) (m : Memories) → IsState D p ord k → (w : Scalar)
      → IsSame D w (zero_item D w) (same_on_both (Some (zero_of w)))
  zero_same k m i (Int t) = record {
    equal = refl;
    allowed = sure_allowed D (Int t)
        (value_of_same D (zero_item D (Int t)).pair.left.value (zero_item D (Int t)).pair.right.value) (int (pos 0))
        (same_allowed D laws.splits laws.more_splits laws.writes laws.domain (Int t)
        (zero_item D (Int t)).pair.left.value (zero_item D (Int t)).pair.right.value (int (pos 0))
        (zero_side k m i (Int t) left).allowed (zero_side k m i (Int t) right).allowed);
    sure = λ g. refl;
  }
  zero_same k m i Pointer = record { equal = refl; allowed = refl; sure = λ g. refl }

  zero_waits : (mode : Mode) (to : Bool) (k : Known N) (m : Memories) → IsState D p ord k → (w : Scalar)
      → Waits D mode to w (underway k (zero_item D w)) m (same_on_both (Some (zero_of w)))
  zero_waits mode to k m i w = record {
    side = λ s r. zero_side k m i w s;
    both = λ e t. zero_same k m i w;
  }

  none_side : (k : Known N) (m : Memories) (s : Side)
      → IsSide D k m (Int U8) (on (undefined_item D).pair s) (maybe_on (undefined_item D) s) None
  none_side k m left = record {
    sort = tt;
    rising = tt;
    form = tt;
    allowed = refl;
    says = λ z e l. absurd (let q : None ≡ Some z = e in cc);
  }
  none_side k m right = record {
    sort = tt;
    rising = tt;
    form = tt;
    allowed = refl;
    says = λ z e l. absurd (let q : None ≡ Some z = e in cc);
  }

  none_waits : (mode : Mode) (to : Bool) (k : Known N) (m : Memories)
      → Waits D mode to (Int U8) (underway k (undefined_item D)) m (same_on_both None)
  none_waits mode to k m = record {
    side = λ s r. none_side k m s;
    both = λ e t. record { equal = refl; allowed = refl; sure = λ g. absurd (let q : true ≡ false = g in cc) };
  }

-- ---- memories

-- a byte that is undefined
undefined_at : (o : Order) (d : Model) (m : Memory) (b q : ℕ)
    → IsAt o d (Int U8) (b, q) None m (replaced d m b q 1 (λ k. undefined))
undefined_at o d m b q = record {
  beside = λ c j e. rw e refl;
  bytes = λ maybe k l. replaced_covered d m b q 1 (λ k. undefined) k l;
}

abbrev pub clear_of : Model → List Leaf → Spot → (n : ℕ) → Memory → Memory
clear_of d leaves q n m = replaced d m q.0 q.1 n (cleared_byte d leaves)

module _ (os : Order × Order) (d : Model) (leaves : List Leaf) (at : Side → Spot) (n : ℕ) where
  abbrev pub cleared_on : Mode → Memories → Memories
  cleared_on Both m = record {
    left = clear_of d leaves (at left) n m.left;
    right = clear_of d leaves (at right) n m.right;
  }
  cleared_on Left m = record { left = clear_of d leaves (at left) n m.left; right = m.right }
  cleared_on Right m = record { left = m.left; right = clear_of d leaves (at right) n m.right }

  -- with these written on the running sides
  abbrev patched_on : Mode → (Order → List Patch) → Memories → Memories
  patched_on Both xs m = record {
    left = patched d (at left).0 (at left).1 (xs os.0) m.left;
    right = patched d (at right).0 (at right).1 (xs os.1) m.right;
  }
  patched_on Left xs m = record {
    left = patched d (at left).0 (at left).1 (xs os.0) m.left;
    right = m.right;
  }
  patched_on Right xs m = record {
    left = m.left;
    right = patched d (at right).0 (at right).1 (xs os.1) m.right;
  }

  one_last : (a : AreLeavesIn d 0 n leaves) → 0 < n → (o : Order) (q : Spot) (m : Memory)
      → IsAlike d (patched d q.0 q.1 (clear_patches o d leaves 0 n) (eased_memory d q.0 q.1 n m))
      (clear_of d leaves q n m)
  one_last a some o q m =
      patched_alike d q.0 q.1 n (cleared_byte d leaves) (clear_patches o d leaves 0 n)
      (are_patches o d leaves n a 0 n (all_bytes n)) some (cover_all o d leaves n a) (λ i l. plain_byte d leaves i) m
    where
      all_bytes : (n : ℕ) → 0 + n ≤ n
      all_bytes n = omega arith

  cleared_last : (mode : Mode) (m : Memories) → AreLeavesIn d 0 n leaves → 0 < n
      → AreAlike d (patched_on mode (λ o. clear_patches o d leaves 0 n) (eased_on d at n mode m)) (cleared_on mode m)
  cleared_last Both m a some = record {
    left = one_last a some os.0 (at left) m.left;
    right = one_last a some os.1 (at right) m.right;
  }
  cleared_last Left m a some = record {
    left = one_last a some os.0 (at left) m.left;
    right = alike_itself d m.right;
  }
  cleared_last Right m a some = record {
    left = alike_itself d m.left;
    right = one_last a some os.1 (at right) m.right;
  }

  leaf_changed : (mode : Mode) (i : ℕ) (w : Scalar) (m : Memories)
      → Changed mode os d w (moved_at i at) (same_on_both (Some (zero_of w))) m
      (patched_on mode (λ o. clear_here o d leaves i (Some w) true) m)
  leaf_changed Both i w m = (
    at_with os.0 d w (moved_at i at left) (zero_of w) m.left
        (patched_on Both (λ o. clear_here o d leaves i (Some w) true) m).left (λ b j. refl),
    at_with os.1 d w (moved_at i at right) (zero_of w) m.right
        (patched_on Both (λ o. clear_here o d leaves i (Some w) true) m).right (λ b j. refl),
  )
  leaf_changed Left i w m = (
    at_with os.0 d w (moved_at i at left) (zero_of w) m.left
        (patched_on Left (λ o. clear_here o d leaves i (Some w) true) m).left (λ b j. refl),
    λ b j. refl,
  )
  leaf_changed Right i w m = (
    at_with os.1 d w (moved_at i at right) (zero_of w) m.right
        (patched_on Right (λ o. clear_here o d leaves i (Some w) true) m).right (λ b j. refl),
    λ b j. refl,
  )

  byte_changed : (mode : Mode) (i : ℕ) (m : Memories)
      → Changed mode os d (Int U8) (moved_at i at) (same_on_both None) m
      (patched_on mode (λ o. clear_here o d leaves i None false) m)
  byte_changed Both i m = (
    undefined_at os.0 d m.left (at left).0 ((at left).1 + i),
    undefined_at os.1 d m.right (at right).0 ((at right).1 + i),
  )
  byte_changed Left i m = (undefined_at os.0 d m.left (at left).0 ((at left).1 + i), λ b j. refl)
  byte_changed Right i m = (undefined_at os.1 d m.right (at right).0 ((at right).1 + i), λ b j. refl)

  -- one after the other
  next_patched : (mode : Mode) (w : Option Scalar) (t : Bool) (i : ℕ) (xs : Order → List Patch) (m : Memories)
      → patched_on mode xs (patched_on mode (λ o. clear_here o d leaves i w t) m)
      ≡ patched_on mode (λ o. clear_here o d leaves i w t ++ xs o) m
  next_patched Both (Some w) t i xs m = refl
  next_patched Both None true i xs m = refl
  next_patched Both None false i xs m = refl
  next_patched Left (Some w) t i xs m = refl
  next_patched Left None true i xs m = refl
  next_patched Left None false i xs m = refl
  next_patched Right (Some w) t i xs m = refl
  next_patched Right None true i xs m = refl
  next_patched Right None false i xs m = refl

  none_patched : (mode : Mode) (m : Memories) → AreAlike d m (patched_on mode (λ o. []) m)
  none_patched Both m = record { left = alike_itself d m.left; right = alike_itself d m.right }
  none_patched Left m = record { left = alike_itself d m.left; right = alike_itself d m.right }
  none_patched Right m = record { left = alike_itself d m.left; right = alike_itself d m.right }

-- ---- what is known

module _ {N : Type 0} (D : Ops N) (laws : CellLaws D) (p : Program) (ord : Side → Order) (sizes : List ℕ)
    (leaves : List Leaf) (at : Side → Spot) (n : ℕ) (a : AreLeavesIn p.types.model 0 n leaves) (mode : Mode)
    (to : Bool) (pl : Places) (sp : RunSpotted mode to n pl at) where
  abbrev os : Order × Order
  os = (ord left, ord right)

  abbrev d : Model
  d = p.types.model

  -- a state of these machines, that holds of these memories
  abbrev pub Stands : Known N → Memories → Type 0
  Stands k m = IsState D p ord k × In D k m

  alike_stands : (k : Known N) (m j : Memories) → AreAlike d m j → Stands k m → Stands k j
  alike_stands k m j e h = (h.0, in_like D k m j (subst (λ x. AreAlike x m j) (sym h.0.model) e) h.1)

  wrote : (w : Scalar) (i : ℕ) (item : Item N) (x : Side → Option Datum) (k : Known N) (m j : Memories) → Stands k m
      → Waits D mode to w (underway k item) m x → i + size_of d w ≤ n → Changed mode os d w (moved_at i at) x m j
      → Stands (write D mode to w (moved_places i pl) (underway k item)).known j
  wrote w i item x k m j h wait l c =
      let u : Underway N = underway k item in
      let v = write D mode to w (moved_places i pl) u in
      let g = step_goes D laws to os d w (moved_places i pl) (moved_at i at) x u m j
      (record { cells = h.0.cells; holds = h.1 }) h.0.orders h.0.model mode wait
      (spotted_at mode to n pl at sp d w i l) c in
      (goes_state D p ord all_blocks u v m j h.0 g, g.change.after.holds)

  one_room : (i c : ℕ) → i + suc c ≤ n → i + 1 ≤ n
  one_room i c h = omega (arith, h)

  here_stands : (i c : ℕ) → i + suc c ≤ n → (v : Option Scalar) (t : Bool) → leaf_at leaves i ≡ v → (k : Known N)
      (m : Memories) → Stands k m
      → Stands (cleared_here D sizes mode n leaves to pl i v t k)
      (patched_on os d leaves at n mode (λ o. clear_here o d leaves i v t) m)
  here_stands i c l (Some w) t e k m h =
      wrote w i (zero_item D w) (same_on_both (Some (zero_of w))) k m
      (patched_on os d leaves at n mode (λ o. clear_here o d leaves i (Some w) true) m) h
      (zero_waits D laws p ord mode to k m h.0 w) (leaf_inside d 0 n i leaves w a e)
      (leaf_changed os d leaves at n mode i w m)
  here_stands i c l None true e k m h =
      alike_stands k m (patched_on os d leaves at n mode (λ o. []) m) (none_patched os d leaves at n mode m) h
  here_stands i c l None false e k m h =
      wrote (Int U8) i (undefined_item D) (same_on_both None) k m
      (patched_on os d leaves at n mode (λ o. clear_here o d leaves i None false) m) h
      (none_waits D laws p ord mode to k m) (one_room i c l) (byte_changed os d leaves at n mode i m)

  next_room : (i c : ℕ) → i + suc c ≤ n → i + 1 + c ≤ n
  next_room i c h = omega (arith, h)

  all_stand : (c i : ℕ) → i + c ≤ n → (k : Known N) (m : Memories) → Stands k m
      → Stands (cleared_from D sizes mode n leaves to pl i c k)
      (patched_on os d leaves at n mode (λ o. clear_patches o d leaves i c) m)
  all_stand zero i l k m h =
      alike_stands k m (patched_on os d leaves at n mode (λ o. []) m) (none_patched os d leaves at n mode m) h
  all_stand (suc c) i l k m h =
      let v = leaf_at leaves i in
      let j = patched_on os d leaves at n mode (λ o. clear_here o d leaves i v (is_in_leaf d leaves i)) m in
      let k1 = cleared_here D sizes mode n leaves to pl i v (is_in_leaf k.model leaves i) k in
      let s : Stands k1 j = subst
      (λ z. Stands (cleared_here D sizes mode n leaves to pl i v (is_in_leaf z leaves i) k) j) (sym h.0.model)
      (here_stands i c l v (is_in_leaf d leaves i) refl k m h) in
      subst (λ o. Stands (cleared_from D sizes mode n leaves to pl i (suc c) k) o)
      (next_patched os d leaves at n mode v (is_in_leaf d leaves i) i (λ o. clear_patches o d leaves (i + 1) c) m)
      (all_stand c (i + 1) (next_room i c l) k1 j s)

  all_bytes : 0 + n ≤ n
  all_bytes = omega arith

  pub cleared_stands : 0 < n → (k : Known N) (m : Memories) → Stands k m
      → Stands (cleared_from D sizes mode n leaves to pl 0 n k) (cleared_on os d leaves at n mode m)
  cleared_stands some k m h =
      let e = eased_on d at n mode m in
      let j = patched_on os d leaves at n mode (λ o. clear_patches o d leaves 0 n) e in
      alike_stands (cleared_from D sizes mode n leaves to pl 0 n k) j (cleared_on os d leaves at n mode m)
      (cleared_last os d leaves at n mode m a some)
      (all_stand n 0 all_bytes k e (alike_stands k m e (eased_first d at n mode m) h))
